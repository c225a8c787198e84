-- Laws of the model's buffers: each is the contract of the function of `src/laws.rt` that its comment names.
use Rattle.std.specs.Prelude.{◌≡◌, List}
use Rattle.defs_text.specs.FlowScalar.{Element, lines_of, trimmed, folded}
use Rattle.model_scanner.specs.Folding.{nothing, joined}
use Rattle.proof_lexers.specs.Buffers.{after_elements}

-- `buffers_join_folded_lines`
abbrev pub BuffersJoinFoldedLines : Type 0
BuffersJoinFoldedLines = (es : List Element) → (joined (after_elements es nothing)).text ≡ folded (trimmed (lines_of es))
