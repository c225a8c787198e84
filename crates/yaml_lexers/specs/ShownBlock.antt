-- What the code of block scalars holds, as the model's states.
use Rattle.std.specs.Prelude.{ℕ, List}
use Rattle.yaml_chars.specs.WindowView.{WindowView, position_of}
use Rattle.yaml_tokens.specs.declared.token.Chomping.{Chomping}
use Rattle.yaml_lexers.specs.declared.block.Lines as code
use Rattle.yaml_lexers.specs.declared.header.Header as code_header
use Rattle.model_scanner.specs.BlockScalar.{Mode, BlockState, Lines, Indicators, Header, Column}

abbrev pub lines : code.Lines → Lines
lines l = record { text = l.text; breaks = l.breaks; broken = l.broken; blank = l.blank }

abbrev pub at : {T : Type 0} → Mode → WindowView T → code.Lines → BlockState
at mode w l = record { mode = mode; position = position_of w; lines = lines l }

abbrev pub indicators_shown : Chomping → ℕ → Indicators
indicators_shown c n = record { chomping = c; increment = n }

abbrev pub header_shown : code_header.Header → Header
header_shown h = record { indicators = indicators_shown h.chomping h.increment; broken = h.broken }

abbrev pub column_shown : ℕ → List ℕ → Column
column_shown n t = record { column = n; breaks = t }
