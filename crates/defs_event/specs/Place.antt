-- What tokens leave open, and what the last of them leaves to come.
use Rattle.std.specs.Prelude.{List, [], ◌∷◌}
use Rattle.defs_token.specs.Token.{Tok}

-- a collection that is open, by the token that began it
pub data Collection : Type 0 where
  block_sequence : Collection
  block_mapping : Collection
  flow_sequence : Collection
  flow_mapping : Collection

abbrev pub without_innermost : List Collection → List Collection
without_innermost [] = []
without_innermost (c ∷ cs) = cs

abbrev pub open_past : Tok → List Collection → List Collection
open_past Tok.block_sequence_start cs = block_sequence ∷ cs
open_past Tok.block_mapping_start cs = block_mapping ∷ cs
open_past Tok.flow_sequence_start cs = flow_sequence ∷ cs
open_past Tok.flow_mapping_start cs = flow_mapping ∷ cs
open_past Tok.block_end cs = without_innermost cs
open_past Tok.flow_sequence_end cs = without_innermost cs
open_past Tok.flow_mapping_end cs = without_innermost cs
open_past _ cs = cs

-- the collections that are open after these tokens, the innermost first
abbrev pub open_after : List Collection → List Tok → List Collection
open_after cs [] = cs
open_after cs (t ∷ ts) = open_after (open_past t cs) ts

-- what a token leaves to come
pub data Next : Type 0 where
  -- a node may begin: after the stream's start, `...`, `---`, `-`, `?`, `:`, a comma, `[` or `{`
  node_next : Next
  -- more directives, or `---`
  directive_next : Next
  other_next : Next

abbrev pub next_past : Tok → Next
next_past Tok.stream_start = node_next
next_past Tok.document_end = node_next
next_past Tok.document_start = node_next
next_past Tok.block_entry = node_next
next_past Tok.key = node_next
next_past Tok.value = node_next
next_past Tok.flow_entry = node_next
next_past Tok.flow_sequence_start = node_next
next_past Tok.flow_mapping_start = node_next
next_past (Tok.version_directive major minor) = directive_next
next_past (Tok.tag_directive handle prefix) = directive_next
next_past _ = other_next

-- what the last of these tokens leaves to come
abbrev pub next_after : Next → List Tok → Next
next_after n [] = n
next_after n (t ∷ ts) = next_after (next_past t) ts
