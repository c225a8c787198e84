-- The last line of a text as the text grows, and the column after it.
use Rattle.std.proofs.Math.Seq.{take-nil}
use Rattle.proof_scanner.proofs.Common.{[], and_parts, ap, arith, Bool, eqb-true, false, has_break, has_no_break, has_tab_within, if◌then◌else◌, is_at_line_end, is_break, is_empty, is_one_of, is_separation, last_line, length, List, nat_lt, nat_tests, not, not-true, or-true, Position, position_after, position_past, refl, split, suc, take, take-append-le, true, ℕ, ◌&&◌, ◌++◌, ◌+◌, ◌<◌, ◌-◌, ◌==◌, ◌||◌, ◌∙◌, ◌∷◌, ◌≡◌, ◌≤◌, ◌⊎◌}

-- ---- breaks in a text and one character more

-- a break anywhere is one of either part
pub break_append : (a b : List ℕ) → has_break (a ++ b) ≡ (has_break a || has_break b)
break_append [] b = refl
break_append (c ∷ a) b = grind (arith, break_append a b)

-- ---- the last line

complete_is : (r : List ℕ) → is_empty (split r).complete ≡ has_no_break r
unfolding is_break
complete_is [] = refl
complete_is (c ∷ r) = grind (arith, not-true, complete_is r)

-- one character more at its start
pub last_first : (c : ℕ) (r : List ℕ) → last_line (c ∷ r) ≡ (if is_break c || has_break r then last_line r else c ∷ last_line r)
last_first c r = (grind arith) ∙ ap (λ b. if is_break c || not b then last_line r else c ∷ last_line r) (complete_is r)

-- one character more at its end
pub last_more : (g : List ℕ) (c : ℕ) → last_line (g ++ c ∷ []) ≡ (if is_break c then [] else last_line g ++ c ∷ [])
last_more [] c = grind arith
last_more (d ∷ g) c = grind (arith, last_first, break_append, last_more g c)

-- a text of one line is its last line
pub last_whole : (g : List ℕ) → has_break g ≡ false → last_line g ≡ g
last_whole [] h = refl
last_whole (c ∷ g) h = grind (arith, last_first, last_whole g)

-- ---- the column after it

-- whether a text begins with a break
abbrev pub at_break : List ℕ → Bool
at_break [] = false
at_break (c ∷ r) = is_break c

feed_at : (d : ℕ) → (d == 10) ≡ true → is_break d ≡ true
unfolding is_break
feed_at d k = rw k refl

-- the column after a text, which is not in the middle of CR LF
pub column_after : (p : Position) (g a : List ℕ) → at_break a ≡ false → (position_after p g a).col ≡ (if has_break g then length (last_line g) else p.col + length g)
column_after p [] a h = omega arith
column_after p (c ∷ g) a h = grind (arith, nat_tests, eqb-true, last_first, feed_at, and_parts, last_whole, column_after (position_past p c (g ++ a)) g a h)

-- ---- no `#` in it, outside comments

-- where a separation ends within a line, and not in a comment, its last line has no `#`
pub no_comment_in_last : (g rest : List ℕ) → is_separation false g rest ≡ true → is_at_line_end rest ≡ false → is_one_of (last_line g) 35 ≡ false
no_comment_in_last g rest h ends = (both g).0 h
  where
    both : (g : List ℕ) → (is_separation false g rest ≡ true → is_one_of (last_line g) 35 ≡ false) × (is_separation true g rest ≡ true → (has_break g ≡ true) × (is_one_of (last_line g) 35 ≡ false))
    both [] = grind arith
    both (c ∷ g) = grind (arith, nat_tests, last_first, or-true, eqb-true, both g)

-- ---- TABs in its first columns

-- one after fewer characters stands in them
pub tab_among : (n : ℕ) (l r : List ℕ) → length l < n → has_tab_within n (l ++ 9 ∷ r) ≡ true
tab_among (suc n) (c ∷ l) r h = grind (arith, tab_among n l r)
tab_among a l r h = grind arith

-- a character other than a TAB, or one after these columns, adds none
pub tab_within_more : (n : ℕ) (l : List ℕ) (c : ℕ) → ((9 == c) ≡ false) ⊎ (n ≤ length l) → has_tab_within n l ≡ false → has_tab_within n (l ++ c ∷ []) ≡ false
tab_within_more n l c a h = grind (arith, take-append-le, take-nil, go n l h)
  where
    go : (n : ℕ) (l : List ℕ) → is_one_of (take n l) 9 ≡ false → (9 == c) ≡ false → is_one_of (take n (l ++ c ∷ [])) 9 ≡ false
    go (suc n) (x ∷ l) h e = grind (arith, go n l)
    go n l h e = grind (arith, take-nil)

-- ---- tABs among the blanks of a line, left of a column

-- A blank in a column, before others: no TAB stands left of a later column if none does there, and the blank is no TAB left of it.
pub blank_more : (k column c : ℕ) (bs : List ℕ) → ((c == 9) && nat_lt k column) ≡ false → has_tab_within (column - suc k) bs ≡ false → has_tab_within (column - k) (c ∷ bs) ≡ false
blank_more k column c bs h others = grind arith
