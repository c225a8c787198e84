-- Which problem a refused token has, by the tokens before it: examples.
use Rattle.yaml_parser.proofs.Common.{[], BlockMappingKey, BlockSequenceEntry, DirectiveWithoutDocumentEnd, DocumentStartToken, FlowMappingEntry, FlowSequenceEntry, List, NodeContent, Problem, problem_of, Style, Tok, ◌∷◌, ◌≡◌}

abbrev word : Tok
word = Tok.scalar Style.plain []

abbrev version : Tok
version = Tok.version_directive 1 2

-- the problem of this token after these and a stream's start
abbrev After : List Tok → Tok → Problem → Type 0
After before refused problem = problem_of (Tok.stream_start ∷ before) refused ≡ problem

record Problems : Type 0 where
  bracket_alone : After [] Tok.flow_sequence_end NodeContent  -- `]`
  bracket_after_document : After (Tok.flow_sequence_start ∷ Tok.flow_sequence_end ∷ []) Tok.flow_sequence_end DocumentStartToken  -- `[]]`
  word_after_directive : After (version ∷ []) word DocumentStartToken  -- `%YAML 1.2` LF `a`
  sequence_goes_on : After (Tok.flow_sequence_start ∷ word ∷ []) Tok.stream_end FlowSequenceEntry  -- `[a`
  -- `[[] a]`
  item_after_item : After (Tok.flow_sequence_start ∷ Tok.flow_sequence_start ∷ Tok.flow_sequence_end ∷ []) word FlowSequenceEntry
  mapping_goes_on : After (Tok.flow_mapping_start ∷ Tok.key ∷ word ∷ []) Tok.flow_sequence_end FlowMappingEntry  -- `{? a]`
  bracket_for_a_key : After (Tok.flow_mapping_start ∷ Tok.key ∷ []) Tok.flow_sequence_end NodeContent  -- `{? ]`
  -- `- a` LF `]`
  bracket_after_entry : After (Tok.block_sequence_start ∷ Tok.block_entry ∷ word ∷ []) Tok.flow_sequence_end BlockSequenceEntry
  -- `a:` LF `- b` LF `]`: the sequence without indentation is no collection of its own
  bracket_after_dash : After (Tok.block_mapping_start ∷ Tok.key ∷ word ∷ Tok.value ∷ Tok.block_entry ∷ word ∷ []) Tok.flow_sequence_end BlockMappingKey
  -- `- a` LF `%YAML 1.2`
  directive_after_document : After (Tok.block_sequence_start ∷ Tok.block_entry ∷ word ∷ Tok.block_end ∷ []) version DirectiveWithoutDocumentEnd
  directive_after_start : After (Tok.document_start ∷ []) version DirectiveWithoutDocumentEnd  -- `---` LF `%YAML 1.2`
  directive_in_brackets : After (Tok.flow_sequence_start ∷ []) version NodeContent  -- `[` LF `%YAML 1.2`

problems : Problems
problems = search
