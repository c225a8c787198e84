-- Lemmas about the scan of a quoted scalar.
use Rattle.model_scanner.proofs.Common.{[], after, arith, At, at_marker, Bool, closed, Context, digit_value, digits_from, Err, escape_of, false, Fault, Folded, gap, is_blank, is_break, is_hex, is_scalar, joined, List, named, nat_lt, nat_tests, nothing, Ok, past, Position, quote_of, quoted, quoted_from, refl, slice_index, suc, true, with_blank, with_char, zero, ℕ, ◌*◌, ◌+◌, ◌<◌, ◌==◌, ◌||◌, ◌∷◌, ◌≡◌, ◌≢◌, ◌≤◌}
use Rattle.yaml_tokens.specs.declared.problem.Problem.TheVariants as problem
use Rattle.model_scanner.specs.Quoted.{refused, first, inside, count_of}
use Rattle.model_scanner.specs.declared.kind.Digits.{Digits}
use Rattle.model_scanner.specs.declared.kind.Escape.TheVariants.{Char, Code, Unknown}

module _ (single : Bool) (ctx : Context) (start : Position) where
  -- a blank or a break of a line begins a gap
  pub inside_gap : (c : ℕ) (a : List ℕ) (p : Position) (t : Folded) → c ≡ slice_index a 0 → (is_break c || is_blank c) ≡ true
      → quoted_from single ctx start a (record { mode = inside; position = p; folded = t }) ≡ quoted_from single ctx start a (record { mode = gap; position = p; folded = t })
  inside_gap c [] p t e h = refl
  inside_gap c (d ∷ a) p t e h = let g : (is_break d || is_blank d) ≡ true = rw e at h in rw g refl

  -- a line begins after a gap
  pub gap_line : (c : ℕ) (a : List ℕ) (p : Position) (t : Folded) → c ≡ slice_index a 0 → (is_break c || is_blank c) ≡ false
      → quoted_from single ctx start a (record { mode = gap; position = p; folded = t }) ≡ quoted_from single ctx start a (record { mode = first; position = p; folded = t })
  gap_line c [] p t e h = refl
  gap_line c (d ∷ a) p t e h = let g : (is_break d || is_blank d) ≡ false = rw e at h in rw g refl

  -- a line that may stand here goes on
  pub line_inside : (a : List ℕ) (p : Position) (t : Folded) → refused ctx start a p ≡ Ok tt
      → quoted_from single ctx start a (record { mode = first; position = p; folded = t }) ≡ quoted_from single ctx start a (record { mode = inside; position = p; folded = joined t })
  line_inside [] p t h = refl
  line_inside (d ∷ a) p t h = rw h refl

  pub line_fails : (c : ℕ) (a : List ℕ) (p : Position) (t : Folded) (f : Fault) → c ≡ slice_index a 0 → c ≢ 0 → refused ctx start a p ≡ Err f
      → quoted_from single ctx start a (record { mode = first; position = p; folded = t }) ≡ Err f
  line_fails c [] p t f e some h = absurd (some e)
  line_fails c (d ∷ a) p t f e some h = rw h refl

  -- after an escaped break the closing quote may stand anywhere, and else a gap goes on
  pub after_gap : (c : ℕ) (a : List ℕ) (p : Position) (t : Folded) → c ≡ slice_index a 0 → (c == quote_of single) ≡ false
      → quoted_from single ctx start a (record { mode = after; position = p; folded = t }) ≡ quoted_from single ctx start a (record { mode = gap; position = p; folded = t })
  after_gap c [] p t e h = refl
  after_gap c (d ∷ a) p t e h = let g : (d == quote_of single) ≡ false = rw e at h in rw g refl

  pub named_char : (c d : ℕ) (a b : List ℕ) (p : Position) (t : Folded) → escape_of c ≡ Char d → a ≡ c ∷ b
      → quoted_from single ctx start a (record { mode = named; position = p; folded = t }) ≡ quoted_from single ctx start b (record { mode = inside; position = past p; folded = with_char d t })
  named_char c d a b p t h e = rw (e, h) refl

  pub named_code : (c : ℕ) (k : Digits) (a b : List ℕ) (p : Position) (t : Folded) → escape_of c ≡ Code k → a ≡ c ∷ b
      → quoted_from single ctx start a (record { mode = named; position = p; folded = t }) ≡ digits_from single ctx start (count_of k) 0 b (past p) t
  named_code c k a b p t h e = rw (e, h) refl

  pub named_unknown : (c : ℕ) (a : List ℕ) (p : Position) (t : Folded) → escape_of c ≡ Unknown → c ≡ slice_index a 0
      → quoted_from single ctx start a (record { mode = named; position = p; folded = t }) ≡ Err (At problem.UnknownEscape start)
  named_unknown c [] p t h e = refl
  named_unknown c (d ∷ a) p t h e = let g : escape_of d ≡ Unknown = rw e at h in rw g refl

  pub digit_turn : (more value c : ℕ) (a b : List ℕ) (p : Position) (t : Folded) → is_hex c ≡ true → a ≡ c ∷ b
      → digits_from single ctx start (suc more) value a p t ≡ digits_from single ctx start more (value * 16 + digit_value c) b (past p) t
  digit_turn zero value c a b p t h e = grind arith
  digit_turn (suc more) value c a b p t h e = rw (e, h) refl

  pub digit_fails : (more value c : ℕ) (a : List ℕ) (p : Position) (t : Folded) → is_hex c ≡ false → c ≡ slice_index a 0
      → digits_from single ctx start (suc more) value a p t ≡ Err (At problem.HexadecimalDigit start)
  digit_fails more value c [] p t h e = refl
  digit_fails more value c (d ∷ a) p t h e = let g : is_hex d ≡ false = rw e at h in rw g refl

  pub coded : (value : ℕ) (a : List ℕ) (p : Position) (t : Folded) → is_scalar value ≡ true
      → digits_from single ctx start zero value a p t ≡ quoted_from single ctx start a (record { mode = inside; position = p; folded = with_char value t })
  coded value a p t h = rw h refl

  pub coded_fails : (value : ℕ) (a : List ℕ) (p : Position) (t : Folded) → is_scalar value ≡ false
      → digits_from single ctx start zero value a p t ≡ Err (At problem.EscapedCode start)
  coded_fails value a p t h = rw h refl

-- after the closing quote the scan is over
pub closed_end : (single : Bool) (ctx : Context) (start : Position) (a : List ℕ) (p : Position) (t : Folded)
    → quoted_from single ctx start a (record { mode = closed; position = p; folded = t }) ≡ Ok (record { rest = a; position = p; value = t.text })
closed_end single ctx start [] p t = refl
closed_end single ctx start (c ∷ a) p t = refl

pub after_quote : (single : Bool) (ctx : Context) (start : Position) (c : ℕ) (a : List ℕ) (p : Position) (t : Folded) → c ≡ slice_index a 0 → c ≡ quote_of single
    → quoted_from single ctx start a (record { mode = after; position = p; folded = t }) ≡ quoted_from single ctx start a (record { mode = inside; position = p; folded = t })
unfolding is_break is_blank
after_quote single ctx start c [] p t e h = refl
after_quote single ctx start c (d ∷ a) p t e h = grind (arith, nat_tests)

pub quoted_starts : (single : Bool) (ctx : Context) (a b : List ℕ) (p : Position) → a ≡ slice_index a 0 ∷ b
    → quoted single ctx a p ≡ quoted_from single ctx p b (record { mode = first; position = past p; folded = nothing })
unfolding quoted
quoted_starts single ctx a b p e = rw e refl

-- in a line's second column or after that no document marker stands
pub in_line_goes_on : (ctx : Context) (start : Position) (a : List ℕ) (p : Position) → 0 < p.col → ctx.indent ≤ p.col + 1 → refused ctx start a p ≡ Ok tt
unfolding refused at_marker
in_line_goes_on ctx start a p right deep =
    let column : (p.col == 0) ≡ false = grind (arith, nat_tests) in
    let indent : nat_lt (p.col + 1) ctx.indent ≡ false = grind (arith, nat_tests) in
    rw (column, indent) refl

pub blank_no_break : (c : ℕ) → is_blank c ≡ true → is_break c ≡ false
unfolding is_blank is_break
blank_no_break c h = grind (arith, nat_tests)

-- a blank that stands alone between two characters of a line belongs to the text as it stands
pub lone_blank : (single : Bool) (ctx : Context) (start : Position) (c d : ℕ) (a b : List ℕ) (p : Position) (t : Folded)
    → a ≡ c ∷ b → d ≡ slice_index b 0 → is_blank c ≡ true → (is_break d || is_blank d) ≡ false → t.gap ≡ [] → t.leading ≡ false → t.escaped ≡ false → refused ctx start b (past p) ≡ Ok tt
    → quoted_from single ctx start a (record { mode = inside; position = p; folded = t }) ≡ quoted_from single ctx start b (record { mode = inside; position = past p; folded = with_char c t })
lone_blank single ctx start c d a b p t e next blank other none leading escaped goes =
    let same : joined (with_blank c t) ≡ with_char c t = rw (none, leading, escaped) refl in
    grind (
      arith,
      e,
      blank_no_break c blank,
      gap_line single ctx start d b (past p) (with_blank c t) next other,
      line_inside single ctx start b (past p) (with_blank c t) goes,
      same,
    )

-- the closing quote
pub closing : (ctx : Context) (start : Position) (a b : List ℕ) (p : Position) (t : Folded) → a ≡ 34 ∷ b
    → quoted_from false ctx start a (record { mode = inside; position = p; folded = t }) ≡ quoted_from false ctx start b (record { mode = closed; position = past p; folded = t })
unfolding is_break is_blank
closing ctx start a b p t e = rw e refl
