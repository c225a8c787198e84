use Rattle.yaml_programs.proofs.Common.{All, IsDoneWith, map, take, text_view, ◌≡◌}
use Rattle.yaml_programs.proofs.file_program.work.Given as goal

abbrev pub invariant-files : goal.invariant-files
invariant-files g l =
    l.status ≡ 0 → All (IsDoneWith g.P.FileProgram.works l.program) (map text_view (take l.path-index l.path-items))
