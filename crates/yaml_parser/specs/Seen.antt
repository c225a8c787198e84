-- A fault as callers see it.
use Rattle.std.specs.Prelude.{Option, Some, None, unwrap_or}
use Rattle.defs_text.specs.Position.{Position}
use Rattle.yaml_tokens.specs.ErrorReport.{ErrorReport}
use Rattle.yaml_tokens.specs.Problem.{fault_of}
use Rattle.yaml_tokens.specs.declared.problem.Fault.TheVariants as fault
use Rattle.yaml_tokens.specs.declared.problem.Fault.{Fault}

-- the fault that callers see
abbrev pub fault_seen : Option Fault → Position → Option ErrorReport → ErrorReport
fault_seen (Some f) mark kept = fault_of f mark
fault_seen None mark kept = unwrap_or kept (fault_of fault.OutOfMemory mark)
