-- The start of a single-pair mapping, where the pair begins with `?` or where none begins: such tokens are no cut.
use Rattle.defs_token.proofs.Common.{[], codes, end_token, flow_mapping_end, flow_mapping_start, flow_sequence_end, flow_sequence_start, IsCut, key, List, plain, Position, refl, scalar, start_token, Tok, Token, ℕ, ◌++◌, ◌∷◌}
use Rattle.defs_token.proofs.NoCut.{no_cut}
use Rattle.defs_token.proofs.OnLiterals.{cut_on_literals}
use Rattle.defs_token.proofs.Shown.{position, first}

abbrev token_at : ℕ → Tok → Token
token_at i t = record { position = position i 1 i; tok = t }

-- tokens that begin with a bracket and the start of a pair, and their last one
abbrev tokens : List Token → (end : Position) → List Token
tokens after end = token_at 0 flow_sequence_start ∷ token_at 1 flow_mapping_start ∷ (after ++ (end_token end ∷ []))

-- a pair that begins with `?` has no start
pub start_before_indicator : (end : Position) →
    IsCut (start_token first ∷ tokens (token_at 1 key ∷ token_at 3 flow_mapping_end ∷ token_at 3 flow_sequence_end ∷ []) end)
    (codes "[? ]") → ⊥
unfolding cut_on_literals
start_before_indicator end = no_cut first _ refl

-- a node that is no key has no start before it
pub start_before_node : (end : Position) →
    IsCut (start_token first ∷ tokens (token_at 1 (scalar plain (codes "a")) ∷
    token_at 2 flow_mapping_end ∷ token_at 2 flow_sequence_end ∷ []) end)
    (codes "[a]") → ⊥
unfolding cut_on_literals
start_before_node end = no_cut first _ refl
