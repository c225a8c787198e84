-- A directive is one line: with the next line it is no cut.
use Rattle.defs_token.proofs.Common.{[], codes, end_token, IsCut, Position, refl, start_token, tag_directive, Token, ◌∷◌}
use Rattle.defs_token.proofs.NoCut.{no_cut}
use Rattle.defs_token.proofs.OnLiterals.{cut_on_literals}

abbrev both_lines : Position → Token
both_lines p = record { position = p; tok = tag_directive [] [] }

-- a directive that takes the next line is no cut
pub next_line_taken : (begin p end : Position) → IsCut (start_token begin ∷ (both_lines p ∷ (end_token end ∷ []))) (codes "%FOO\na: b") → ⊥
unfolding cut_on_literals
next_line_taken begin p end = no_cut begin (both_lines p ∷ (end_token end ∷ [])) refl

-- nor is one that takes a quoted scalar with a wrong escape
pub quote_taken : (begin p end : Position) → IsCut (start_token begin ∷ (both_lines p ∷ (end_token end ∷ []))) (codes "%FOO\n\"bad \\q") → ⊥
unfolding cut_on_literals
quote_taken begin p end = no_cut begin (both_lines p ∷ (end_token end ∷ [])) refl
