-- Where the walk over a text stands: in a line, of which some characters are passed.
use Rattle.std.proofs.Common.{ℕ, zero, suc, ◌+◌, ◌-◌, ◌<◌, ◌≡◌, refl, sym, ap, ◌∙◌, List, [], ◌∷◌, ◌++◌, Bool, true, false, not, ◌&&◌, take, drop, length, append_assoc, arith, subst, true≢false, if◌then◌else◌, length-append, append-nil}
use Rattle.defs_text.specs.Classes.{is_break}
use Rattle.defs_text.specs.Breaks.{has_no_break}
use Rattle.yaml_tokens.specs.Excerpt.{last_line}

pub record IsAt (text : List ℕ) (index : ℕ) (line : List ℕ) (column : ℕ) (rest : List ℕ) (left : ℕ) : Type 0 where
  pub before : List ℕ
  pub line_is : line ≡ before ++ rest
  pub column_is : column ≡ length before
  pub one_line : has_no_break before ≡ true
  pub same_line : last_line (before ++ take left rest) ≡ last_line (take index text)
  pub same_rest : drop left rest ≡ drop index text

pub at_start : (text : List ℕ) (index : ℕ) → IsAt text index text 0 text index
at_start text index = record { before = []; line_is = refl; column_is = refl; one_line = refl; same_line = refl; same_rest = refl }

-- a line without a break is its own last line
pub one_line_is_last : (b : List ℕ) → has_no_break b ≡ true → last_line b ≡ b
one_line_is_last [] h = refl
one_line_is_last (c ∷ r) h = ap (λ x. if x then c ∷ r else last_line r) h

-- a text with a break has one
has_break : (b : List ℕ) (c : ℕ) (r : List ℕ) → is_break c ≡ true → has_no_break (b ++ c ∷ r) ≡ false
has_break [] c r h = ap (λ x. not x && has_no_break r) h
has_break (d ∷ b) c r h = ap (λ x. not (is_break d) && x) (has_break b c r h) ∙ and_false (not (is_break d))
  where
    and_false : (x : Bool) → (x && false) ≡ false
    and_false true = refl
    and_false false = refl

-- what stands before a break is not of the last line
past_break : (b : List ℕ) (c : ℕ) (r : List ℕ) → is_break c ≡ true → last_line (b ++ c ∷ r) ≡ last_line r
past_break [] c r h = ap (λ x. if x then c ∷ r else last_line r) (has_break [] c r h)
past_break (d ∷ b) c r h = ap (λ x. if x then d ∷ (b ++ c ∷ r) else last_line (b ++ c ∷ r)) (has_break (d ∷ b) c r h) ∙ past_break b c r h

-- one character more on a line
one_more : (b : List ℕ) (c : ℕ) → has_no_break b ≡ true → is_break c ≡ false → has_no_break (b ++ c ∷ []) ≡ true
one_more [] c h i = ap (λ x. not x && true) i
one_more (d ∷ b) c h i = both (not (is_break d)) (has_no_break b) h (λ k. one_more b c k i)
  where
    both : (x y : Bool) {z : Bool} → (x && y) ≡ true → (y ≡ true → z ≡ true) → (x && z) ≡ true
    both true true h k = k refl
    both true false h k = absurd (true≢false (sym h))
    both false true h k = absurd (true≢false (sym h))
    both false false h k = absurd (true≢false (sym h))

-- a break is passed
pub at_line : (text line rest after : List ℕ) (index column left c : ℕ) → IsAt text index line column rest (suc left) → rest ≡ c ∷ after → is_break c ≡ true → IsAt text index after 0 after left
at_line text line rest after index column left c a e h =
    record {
      before = [];
      line_is = refl;
      column_is = refl;
      one_line = refl;
      same_line = sym (past_break a.before c (take left after) h) ∙ ap (λ r. last_line (a.before ++ take (suc left) r)) (sym e) ∙ a.same_line;
      same_rest = ap (drop (suc left)) (sym e) ∙ a.same_rest;
    }

-- another character is passed
pub at_next : (text line rest after : List ℕ) (index column left c : ℕ) → IsAt text index line column rest (suc left) → rest ≡ c ∷ after → is_break c ≡ false → IsAt text index line (column + 1) after left
at_next text line rest after index column left c a e h =
    record {
      before = a.before ++ c ∷ [];
      line_is = a.line_is ∙ ap (λ r. a.before ++ r) e ∙ sym (append_assoc a.before (c ∷ []) after);
      column_is = ap (λ n. n + 1) a.column_is ∙ sym (length-append a.before (c ∷ []));
      one_line = one_more a.before c a.one_line h;
      same_line = ap last_line (append_assoc a.before (c ∷ []) (take left after)) ∙ ap (λ r. last_line (a.before ++ take (suc left) r)) (sym e) ∙ a.same_line;
      same_rest = ap (drop (suc left)) (sym e) ∙ a.same_rest;
    }

-- the number of characters left is one more than that after the next
pub one_less : (text line rest : List ℕ) (index column left : ℕ) → 0 < left → IsAt text index line column rest left → IsAt text index line column rest (suc (left - 1))
one_less text line rest index column zero h a = absurd (omega (arith, h))
one_less text line rest index column (suc n) h a = subst (λ k. IsAt text index line column rest (suc k)) (less n) a
  where
    less : (k : ℕ) → k ≡ suc k - 1
    less k = omega arith

-- where the walk ends, the line up to the position and what stands from there on
pub record IsThere (text : List ℕ) (index : ℕ) (line : List ℕ) (column : ℕ) : Type 0 where
  pub line_is : line ≡ last_line (take index text) ++ drop index text
  pub column_is : column ≡ length (last_line (take index text))

there : (text line rest : List ℕ) (index column left : ℕ) → (a : IsAt text index line column rest left) → take left rest ≡ [] → drop left rest ≡ rest → IsThere text index line column
there text line rest index column left a e f =
    let last : a.before ≡ last_line (take index text) = sym (one_line_is_last a.before a.one_line) ∙ ap last_line (sym (append-nil a.before)) ∙ ap (λ x. last_line (a.before ++ x)) (sym e) ∙ a.same_line in
    record {
      line_is = a.line_is ∙ ap (λ b. b ++ rest) last ∙ ap (λ r. last_line (take index text) ++ r) (sym f ∙ a.same_rest);
      column_is = a.column_is ∙ ap length last;
    }

pub at_count : (text line rest : List ℕ) (index column left : ℕ) → IsAt text index line column rest left → left ≡ 0 → IsThere text index line column
at_count text line rest index column left a e = there text line rest index column left a (ap (λ n. take n rest) e) (ap (λ n. drop n rest) e)

take_nil : (n : ℕ) → take {A = ℕ} n [] ≡ []
take_nil zero = refl
take_nil (suc n) = refl

drop_nil : (n : ℕ) → drop {A = ℕ} n [] ≡ []
drop_nil zero = refl
drop_nil (suc n) = refl

pub at_end : (text line rest : List ℕ) (index column left : ℕ) → IsAt text index line column rest left → rest ≡ [] → IsThere text index line column
at_end text line rest index column left a e = there text line rest index column left a (ap (take left) e ∙ take_nil left) (ap (drop left) e ∙ drop_nil left ∙ sym e)
