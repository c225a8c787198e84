-- How a parser's fields are seen.
use Rattle.std.specs.Prelude.{ℕ, ◌+◌, Option, Some, None, option_map}
use Rattle.defs_text.specs.Position.{Position}
use Rattle.yaml_tokens.specs.ErrorReport.{ErrorReport}
use Rattle.yaml_tokens.specs.Problem.{fault_of}
use Rattle.yaml_tokens.specs.declared.problem.Fault.TheVariants as fault
use Rattle.yaml_tokens.specs.declared.problem.Problem.TheVariants.{DocumentStartEvent}
use Rattle.yaml_scanner.specs.Scanned.{scanned}
use Rattle.yaml_parser.specs.declared.pull.EventReader.{EventReader}
use Rattle.yaml_parser.specs.declared.reader.Reader.{Reader}
use Rattle.yaml_parser.specs.Seen.{fault_seen}
use Rattle.yaml_parser.specs.Work.{work}

abbrev pub fault_kept : {T : Type 0} → EventReader T → Option ErrorReport
fault_kept p = option_map (λ k. fault_seen k.0 k.1 (scanned p.reader.tokens.scanner).fault) p.kept

abbrev pub one_if_some : {A : Type 0} → Option A → ℕ
one_if_some None = 0
one_if_some (Some x) = 1

abbrev pub events_left : {T A : Type 0} → Reader T → Option A → ℕ
events_left r current = work r + one_if_some current

-- the fault where no document starts
abbrev pub no_document : Position → ErrorReport
no_document p = fault_of (fault.At DocumentStartEvent p) p
