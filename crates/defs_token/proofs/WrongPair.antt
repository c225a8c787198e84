-- One flag for the pairs of all flow levels: the tokens that it gives for a nested sequence are no cut.
use Rattle.defs_token.proofs.Common.{[], codes, end_token, flow_entry, flow_mapping_end, flow_mapping_start, flow_sequence_end, flow_sequence_start, IsCut, key, List, plain, Position, refl, scalar, start_token, Tok, Token, value, ℕ, ◌∷◌}
use Rattle.defs_token.proofs.NoCut.{no_cut}
use Rattle.defs_token.proofs.OnLiterals.{cut_on_literals}
use Rattle.defs_token.proofs.Shown.{position, first}

abbrev at : ℕ → Tok → Token
at i t = record { position = position i 1 i; tok = t }

-- the pair of the outer level ends before the comma of the inner one
abbrev wrong : (end : Position) → List Token
wrong end =
    at 0 flow_sequence_start ∷
    at 1 flow_mapping_start ∷
    at 1 key ∷
    at 1 (scalar plain (codes "a")) ∷
    at 2 value ∷
    at 4 flow_sequence_start ∷
    at 5 (scalar plain (codes "b")) ∷
    at 6 flow_mapping_end ∷
    at 6 flow_entry ∷
    at 8 (scalar plain (codes "c")) ∷
    at 9 flow_sequence_end ∷
    at 10 flow_sequence_end ∷
    end_token end ∷
    []

pub one_flag : (end : Position) → IsCut (start_token first ∷ wrong end) (codes "[a: [b, c]]") → ⊥
unfolding cut_on_literals
one_flag end = no_cut first (wrong end) refl
