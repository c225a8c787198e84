-- The tokens of one quoted scalar are a stream, and are read as a string.
use Rattle.proof_layouts.proofs.Common.{[], Bool, in_block, List, nested_scalar, None, Ok, QuotedTokensReadAsTheirString, ReadAs, reading, refl, Tok, Tree, with_node, ℕ, ◌∷◌, ◌≡◌, arith}
use Rattle.defs_layout.specs.QuotedText.{Quotes, single, double, style_of}
use Rattle.proof_layouts.proofs.Says.{taken, left, said, scalar, stream_ends, stream_said}

one_scalar : (keep_tags : Bool) (quotes : Quotes) (value : List ℕ) → ReadAs keep_tags (Tok.stream_start ∷ Tok.scalar (style_of quotes) value ∷ Tok.stream_end ∷ []) (Tree.string value ∷ [])
one_scalar keep_tags quotes value = record {
  documents = with_node (nested_scalar value (style_of quotes) 0 None) ∷ [];
  stream = stream_said (taken _ refl (said _ refl (left _ refl (said _ refl (scalar None in_block (style_of quotes) value stream_ends)))));
  trees_are = grind arith;
}

pub quoted_read_as_their_string : QuotedTokensReadAsTheirString
quoted_read_as_their_string keep_tags text tokens q = rw (q.4) (one_scalar keep_tags q.0.quotes q.1)
