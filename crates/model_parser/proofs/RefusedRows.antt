-- Tokens with which no stream begins, though one begins with all but the last: the table refuses the last.
use Rattle.model_parser.proofs.Common.{[], Bool, codes, false, List, Outcome, Raw, read_stream, stops, Style, Tok, true, ◌∷◌, ◌≡◌}

abbrev x : Tok
x = Tok.scalar Style.plain (codes "x")

abbrev stops_at_last : Outcome Tok Raw → Bool
stops_at_last (stops es (t ∷ [])) = true
stops_at_last _ = false

-- after a stream's start
abbrev StopsAtLast : List Tok → Type 0
StopsAtLast tokens = stops_at_last (read_stream (Tok.stream_start ∷ tokens)) ≡ true

record Refused : Type 0 where
  after_the_end : StopsAtLast (Tok.stream_end ∷ Tok.stream_end ∷ [])
  -- `x` LF `%YAML 1.2`: a directive after a document without `...`
  directive_without_marker : StopsAtLast (x ∷ Tok.version_directive 1 2 ∷ [])
  -- two scalars: a document without `---` after one without `...`
  two_bare_documents : StopsAtLast (x ∷ x ∷ [])
  -- `%YAML 1.2` LF `x`: no `---` after a directive
  directive_alone : StopsAtLast (Tok.version_directive 1 2 ∷ x ∷ [])
  -- a sequence without start and end is no document's node
  entry_alone : StopsAtLast (Tok.block_entry ∷ [])
  -- `*x x`: an alias has no content
  alias_with_content : StopsAtLast (Tok.alias (codes "x") ∷ x ∷ [])
  -- `&x &x`: two anchors of one node
  two_anchors : StopsAtLast (Tok.anchor (codes "x") ∷ Tok.anchor (codes "x") ∷ [])
  -- `[,`: a comma where there is no entry
  comma_first : StopsAtLast (Tok.flow_sequence_start ∷ Tok.flow_entry ∷ [])
  -- `{,`
  comma_first_in_mapping : StopsAtLast (Tok.flow_mapping_start ∷ Tok.flow_entry ∷ [])
  key_in_a_sequence : StopsAtLast (Tok.block_sequence_start ∷ Tok.key ∷ [])  -- a key in a block sequence
  -- `x: x` LF `- ..`: a `-` after a pair
  entry_after_a_pair : StopsAtLast (Tok.block_mapping_start ∷ Tok.key ∷ x ∷ Tok.value ∷ x ∷ Tok.block_entry ∷ [])
  block_in_flow : StopsAtLast (Tok.flow_sequence_start ∷ Tok.block_sequence_start ∷ [])  -- a block sequence in a flow sequence

refused : Refused
refused = search
