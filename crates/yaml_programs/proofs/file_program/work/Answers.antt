use Rattle.yaml_programs.proofs.Common.{All, IsDoneWith, IsSetTo, map, setting_view, subst, text_view}
use Rattle.yaml_programs.proofs.DoneFiles.{done_more, all_done, of_ok}
use Rattle.yaml_programs.proofs.file_program.work.Goals as goal

pub files-preserved : goal.files-preserved
files-preserved g c zero =
    let was = c.in_ok-status.ensures {u = tt} zero in
    done_more (IsDoneWith g.P.FileProgram.works c.in_ok-program.program) c.deref-path-items.result.now c.files.path-index _ c.files-test.true
    (of_ok _ c.work_on-outcome.result c.work_on-outcome.ensures was.1) (c.files.invariant was.0)

pub returns : goal.returns
returns g c zero = (
  c.in_ok-program.program,
  subst (λ settings. IsSetTo g.P.FileProgram.sets g.P.FileProgram.USUAL (map setting_view settings) c.in_ok-program.program) c.as_slice.ensures.value (c.in_ok-program.ensures {u = tt}),
  subst (λ files. All (IsDoneWith g.P.FileProgram.works c.in_ok-program.program) (map text_view files)) c.deref-path-items.ensures.value
      (all_done (IsDoneWith g.P.FileProgram.works c.in_ok-program.program) c.deref-path-items.result.now c.files.path-index c.files-test.false (c.files.invariant zero)),
)
