use Rattle.yaml_programs.proofs.Common.{drop, IsSetTo, map, setting_view}
use Rattle.yaml_programs.proofs.file_program.program_with.Given as goal

abbrev pub invariant-settings : goal.invariant-settings
invariant-settings g l =
    (q : _) → IsSetTo g.P.FileProgram.sets l.program (map setting_view (drop l.setting-index l.settings)) q
    → IsSetTo g.P.FileProgram.sets g.P.FileProgram.USUAL (map setting_view l.settings) q
