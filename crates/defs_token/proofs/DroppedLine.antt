-- A plain scalar whose second line is dropped is no cut.
use Rattle.defs_token.proofs.Common.{[], codes, end_token, IsCut, plain, Position, refl, scalar, start_token, Token, ◌∷◌}
use Rattle.defs_token.proofs.NoCut.{no_cut}
use Rattle.defs_token.proofs.OnLiterals.{cut_on_literals}

abbrev first_line : Position → Token
first_line p = record { position = p; tok = scalar plain (codes "a") }

pub second_line_dropped : (begin p end : Position) → IsCut (start_token begin ∷ (first_line p ∷ (end_token end ∷ []))) (codes "a\n b") → ⊥
unfolding cut_on_literals
second_line_dropped begin p end = no_cut begin (first_line p ∷ (end_token end ∷ [])) refl
