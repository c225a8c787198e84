-- The lines of a text after another one, and a text's first line.
use Rattle.proof_row.proofs.Common.{[], ap, begins_with, Bool, false, if◌then◌else◌, is_before_line_feed, is_break, List, put_first, refl, Split, split, split_by, with_first, ℕ, ◌++◌, ◌∙◌, ◌∷◌, ◌≡◌, arith}

abbrev pub of_lines : (complete : List (List ℕ)) → (last : List ℕ) → Split
of_lines ls l = record { complete = ls; last = l }

-- ---- the lines of two texts

-- the lines of a text after complete ones
abbrev pub lines_after : List (List ℕ) → Split → Split
lines_after ls s = of_lines (ls ++ s.complete) (s.last)

-- a text whose last line is complete, and one after it that does not go on with a line feed
pub split_append : (p z : List ℕ) (ls : List (List ℕ)) → split p ≡ of_lines ls [] → begins_with 10 z ≡ false → split (p ++ z) ≡ lines_after ls (split z)
split_append [] z ls e h = grind arith
split_append (c ∷ p) z ls e h =
    ap (λ b. split_by (is_break c) b c (split (p ++ z))) (grind arith) ∙ by (is_break c) (is_before_line_feed c p) (split p) refl (λ ls e. split_append p z ls e h) e
  where
    kept : (complete : List (List ℕ)) (last : List ℕ) → put_first c complete last ≡ of_lines ls [] → ((ls : List (List ℕ)) → of_lines complete last ≡ of_lines ls [] → split (p ++ z) ≡ lines_after ls (split z)) →
        with_first c (split (p ++ z)) ≡ lines_after ls (split z)
    kept [] last e f = absurd (cc (ap (λ s. s.last) e))
    kept (l ∷ complete) last e f =
        let ended : last ≡ [] = ap (λ s. s.last) e in
        let lines : (c ∷ l) ∷ complete ≡ ls = ap (λ s. s.complete) e in
        ap (λ s. with_first c s) (f (l ∷ complete) (ap (λ x. of_lines (l ∷ complete) x) ended)) ∙ ap (λ x. lines_after x (split z)) lines

    by : (break two : Bool) (s : Split) → split p ≡ s → ((ls : List (List ℕ)) → s ≡ of_lines ls [] → split (p ++ z) ≡ lines_after ls (split z)) → split_by break two c s ≡ of_lines ls [] →
        split_by break two c (split (p ++ z)) ≡ lines_after ls (split z)
    by a two s i f e = grind (arith, kept)

-- ---- the first line

-- the characters before the first break
abbrev pub up_to_break : List ℕ → List ℕ
up_to_break [] = []
up_to_break (c ∷ r) = (if is_break c then [] else c ∷ up_to_break r)

-- the first of lines
abbrev pub first_line : (complete : List (List ℕ)) → (last : List ℕ) → List ℕ
first_line [] last = last
first_line (l ∷ ls) last = l

-- the first line of a text
abbrev pub line_of : List ℕ → List ℕ
line_of z = first_line ((split z).complete) ((split z).last)

-- it goes up to the first break
pub line_is : (z : List ℕ) → line_of z ≡ up_to_break z
unfolding is_break
line_is [] = refl
line_is (c ∷ r) = grind (arith, line_is r)

-- the first line of a longer text is that of its beginning, if this has a complete line
pub line_more : (z : List ℕ) → ((split z).complete ≡ [] → ⊥) → (y : List ℕ) → up_to_break (z ++ y) ≡ up_to_break z
line_more [] h y = absurd (h refl)
line_more (c ∷ r) h y = grind (arith, line_more r)

-- a text without lines is empty
pub no_lines : (z : List ℕ) → split z ≡ of_lines [] [] → z ≡ []
no_lines [] e = refl
no_lines (c ∷ r) e = grind (arith, no_lines r)
