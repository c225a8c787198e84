-- The lines of a text make the text, and are those of std's `lines`.
use Rattle.defs_tree.proofs.Common.{[], and_parts, ap, arith, Bool, codes, ended, ends_with, false, if◌then◌else◌, is_empty, is_unbroken, length, lines, lines_of, lines_of_parts, List, list_all, nat_eq, ne_eqb, not, not-true, onto_first, onto_first_line, refl, slice_index, slice_split, suc, sym, true, zero, ℕ, ◌++◌, ◌-◌, ◌==◌, ◌||◌, ◌∙◌, ◌∷◌, ◌≡◌}

-- ---- the last character

pub ends_with-step : (x c d : ℕ) (cs : List ℕ) → ends_with nat_eq (c ∷ d ∷ cs) (x ∷ []) ≡ ends_with nat_eq (d ∷ cs) (x ∷ [])
ends_with-step x c d cs = grind arith

pub ends_with-one : (x c : ℕ) → ends_with nat_eq (c ∷ []) (x ∷ []) ≡ (x == c)
ends_with-one x c = grind arith

-- ---- the lines make the text

abbrev has_no_line : List (List ℕ) → Bool
has_no_line [] = true
has_no_line (l ∷ ls) = false

pub lines_of_ended : (text : List ℕ) → ended (lines_of text) ≡ (if is_empty text || ends_with nat_eq text (codes "\n") then text else text ++ 10 ∷ [])
lines_of_ended [] = refl
lines_of_ended (c ∷ []) = grind (arith, ends_with-one)
lines_of_ended (c ∷ d ∷ cs) = grind (arith, ends_with-step, lines_of_ended (d ∷ cs))

-- ---- no line holds a line feed

pub lines_of_unbroken : (text : List ℕ) → list_all is_unbroken (lines_of text) ≡ true
lines_of_unbroken [] = refl
lines_of_unbroken (c ∷ cs) = grind (arith, lines_of_unbroken cs)

-- ---- std's lines, where there is no CR

abbrev pub has_no_return : List ℕ → Bool
has_no_return t = list_all (λ c. not (c == 13)) t

no_return-at : (l : List ℕ) (i : ℕ) → has_no_return l ≡ true → (slice_index l i == 13) ≡ false
no_return-at [] i h = refl
no_return-at (c ∷ cs) zero h = not-true (c == 13) (and_parts (not (c == 13)) (has_no_return cs) h).0
no_return-at (c ∷ cs) (suc i) h = no_return-at cs i (and_parts (not (c == 13)) (has_no_return cs) h).1

-- the parts of a text without CR have none either
abbrev have_no_return : List (List ℕ) → Bool
have_no_return ps = list_all has_no_return ps

abbrev parts_of : List ℕ → List (List ℕ)
parts_of t = slice_split (λ b. b == 10) t

parts-no_return : (t : List ℕ) → has_no_return t ≡ true → have_no_return (parts_of t) ≡ true
parts-no_return [] h = refl
parts-no_return (c ∷ cs) h = grind (arith, and_parts, parts-no_return cs)

parts-some : (t : List ℕ) → has_no_line (parts_of t) ≡ false
parts-some [] = refl
parts-some (c ∷ cs) = grind arith

last_part : (c : ℕ) (cs : List ℕ) → lines_of_parts ((c ∷ cs) ∷ []) ≡ (c ∷ cs) ∷ []
last_part c cs = ap (λ b. if b then [] else (c ∷ cs) ∷ []) (ne_eqb (length (c ∷ cs)) 0 (λ e. omega arith))

character_before : (c : ℕ) (ps : List (List ℕ)) → has_no_line ps ≡ false → not (c == 13) ≡ true → have_no_return ps ≡ true
    → lines_of_parts (onto_first c ps) ≡ onto_first_line c (lines_of_parts ps)
character_before c [] h n r = cc
character_before c ([] ∷ []) h n r = refl
character_before c ((d ∷ ds) ∷ []) h n r = last_part c (d ∷ ds) ∙ ap (λ ls. onto_first_line c ls) (sym (last_part d ds))
character_before c (p ∷ q ∷ ps) h n r = grind (arith, and_parts, no_return-at)

pub lines_of_std : (t : List ℕ) → has_no_return t ≡ true → lines_of t ≡ lines t
lines_of_std [] h = refl
lines_of_std (c ∷ cs) h = grind (arith, and_parts, parts-some, character_before, parts-no_return, lines_of_std cs)
