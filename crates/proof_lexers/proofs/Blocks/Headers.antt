-- Block scalars' headers are read as what they say.
use Rattle.proof_lexers.proofs.Common.{[], along, and_then, ap, arith, At, begins_with, BlockStyle, Bool, cases_Bool, cases_Option, chomping, comment, digit_of, ends_line, EndsAs, Err, false, further, has_zero, header, header_break, header_end, header_of, HeadersEndAsTheirLineSays, if◌then◌else◌, increment, indicator_of, indicators, indicators_of, inl, inr, is_break, is_in_line, is_rest_of_line, is_sign, IsHeaderRead, IsHeaderRefusal, length, linebreak, List, nat_tests, no_header, None, Ok, past, past_indicators, Position, Read, reads, refl, refuses, sign_of, Some, sym, tab, tabbed, true, whole_header, with_indicators, zero_digit, ℕ, ◌++◌, ◌==◌, ◌∙◌, ◌∷◌, ◌≡◌, eqb-true, digit_by, digit_or_zero, Fault, Header, read_header, Result, and_parts, ◌||◌, after_style, slice_index, BlockScalarTab, BlockScalarZero, is_between, both, same_break}
use Rattle.yaml_chars.specs.Class.{is_digit}
use Rattle.defs_text.specs.Classes as classes
use Rattle.defs_text.specs.BlockScalar as defs
use Rattle.std.proofs.lemmas.List.Folds.{list_all-append}
use Rattle.proof_lexers.proofs.Along.{along_append}
use Rattle.proof_lexers.proofs.RestOfLine as rest_of_lines
use Rattle.proof_lexers.proofs.RestOfLine.{along_further, in_line_is, glued, goes_on, rest_of_line}
use Rattle.proof_lexers.proofs.Blocks.Margins.{after_break, Break, Fits, put}

-- what stands at a line's end is no indicator
still : (c : ℕ) → is_break c ≡ true → ((c == 43) ≡ false) × ((c == 45) ≡ false) × (is_digit c ≡ false)
unfolding is_break is_digit
still c h = (grind (arith, nat_tests), grind (arith, nat_tests), grind (arith, nat_tests))

-- ---- the indicators of a line

-- a text's first character, if it is of a class
abbrev one : (ℕ → Bool) → List ℕ → List ℕ
one class [] = []
one class (c ∷ r) = (if class c then c ∷ [] else [])

-- the indicators that a line begins with: a sign and a digit in either order
abbrev front : List ℕ → List ℕ
front [] = []
front (c ∷ r) =
    (if is_sign c then c ∷ one (is_between 49 57) r else (if is_between 49 57 c then c ∷ one is_sign r else []))

front_cut : (l : List ℕ) → l ≡ front l ++ past_indicators l
front_cut (c ∷ d ∷ l) = grind arith
front_cut l = grind arith

digit_is : (c : ℕ) → is_digit c ≡ ((c == 48) || is_between 49 57 c)
unfolding is_digit
digit_is c = both _ _ (λ h. grind (arith, nat_tests)) (λ h. grind (arith, nat_tests))

tab_next : (c : ℕ) (a : List ℕ) (p q : Position) → begins_with tab (linebreak (c ∷ a) p).rest ≡ (slice_index (linebreak (c ∷ a) q).rest 0 == 9)
tab_next c a p q = grind arith

module _ (start : Position) (style : BlockStyle) where
  -- indicators are a header, if no `0` stands among them
  some_header : (l : List ℕ) → has_zero l ≡ false → after_style style (front l) ≡ None → ⊥
  unfolding sign_of digit_of
  some_header (c ∷ d ∷ l) z e = grind arith
  some_header l z e = grind arith

  -- a line is the header that its indicators are, if the rest of it is blanks and a comment
  header_is : (l : List ℕ) (h : defs.Header) → has_zero l ≡ false → after_style style (front l) ≡ Some h
      → header_of (indicator_of style ∷ l) ≡ (if is_rest_of_line (past_indicators l) then Some h else None)
  unfolding sign_of digit_of
  header_is (c ∷ d ∷ l) h z e = grind arith
  header_is l h z e = grind arith

  -- the model reads just these
  indicators_read : (l r : List ℕ) (h : defs.Header) → ends_line r ≡ true → has_zero l ≡ false → after_style style (front l) ≡ Some h
      → indicators start (l ++ r) (past start) ≡ Ok (record { rest = past_indicators l ++ r; position = along (front l) (past start); value = indicators_of h })
  unfolding sign_of digit_of indicators chomping increment
  indicators_read (c ∷ d ∷ l) r h ends z e = elim (cases_Bool (c == 43)) [
    | inl f ↦ grind (arith, digit_is)
    | inr f ↦ elim (cases_Bool (c == 45)) [ inl g ↦ grind (arith, digit_is) | inr g ↦ grind (arith, digit_is) ]
  ]
  indicators_read l [] h ends z e = grind (arith, digit_is)
  indicators_read l (b ∷ r) h ends z e = let quiet = still b (sym (same_break b) ∙ ends) in grind (arith, digit_is, quiet)

  -- a `0` is refused, and no header has one
  zero_fails : (l r : List ℕ) → has_zero l ≡ true
      → (header_of (indicator_of style ∷ l) ≡ None) × (indicators start (l ++ r) (past start) ≡ Err (At BlockScalarZero start))
  unfolding sign_of digit_of indicators chomping increment is_digit classes.is_blank
  zero_fails (c ∷ d ∷ l) r z = grind (arith, nat_tests, eqb-true)
  zero_fails l r z = grind (arith, nat_tests, eqb-true)

  -- after a header's line
  at_line_end : (line r : List ℕ) (h : defs.Header) → ends_line r ≡ true → header_of (indicator_of style ∷ line) ≡ Some h
      → EndsAs (IsHeaderRead start style line r) (IsHeaderRefusal start style line r)
      (and_then (header_break start r (along line (past start))) (λ (b : Read Bool). Ok (with_indicators (indicators_of h) b)))
  unfolding header_break
  at_line_end line [] h ends is = reads _ (whole_header h is refl) refl
  at_line_end line (c ∷ a) h ends is = elim (cases_Bool (begins_with tab (linebreak (c ∷ a) start).rest)) [
    | inl f ↦ refuses _ (tabbed h is f) (rw (← same_break c, ends, ← tab_next c a start (along line (past start)), f) refl)
    | inr f ↦ reads _ (whole_header h is f) (rw (← same_break c, ends, ← tab_next c a start (along line (past start)), f) refl)
  ]

-- ---- the line

module _ (start : Position) (style : BlockStyle) (line r : List ℕ) (inner : is_in_line line ≡ true) (ends : ends_line r ≡ true) where
  abbrev Ends : Result (Read Header) Fault → Type 0
  Ends x = EndsAs (IsHeaderRead start style line r) (IsHeaderRefusal start style line r) x

  abbrev w : List ℕ
  w = past_indicators line

  -- after the indicators, before the rest of the line
  finish : (h : defs.Header) → has_zero line ≡ false → after_style style (front line) ≡ Some h → Ends (header start (line ++ r) (past start))
  unfolding header header_end header_break
  finish h free own =
      let q : Position = along (front line) (past start) in
      let is = header_is start style line h free own in
      let rest_inner = (and_parts (is_in_line (front line)) (is_in_line w) (sym (list_all-append _ (front line) w) ∙ ap is_in_line (sym (front_cut line)) ∙ inner)).1 in
      let position : further (length w) q ≡ along line (past start) = sym (ap (λ x. along x (past start)) (front_cut line) ∙ along_append (front line) w (past start) ∙ along_further w q) in
      rw (indicators_read start style line r h ends free own) (elim (rest_of_line w r q (in_line_is w ∙ rest_inner) ends) [
        | rest_of_lines.ends v rest e ↦ rw (e, position) (at_line_end start style line r h ends (is ∙ rw rest refl))
        | glued text so unlike e ↦ refuses _ (comment h (front line) text (is ∙ rw unlike refl) ((grind arith) ∙ own) (front_cut line ∙ ap (λ x. front line ++ x) so)) (rw e refl)
        | goes_on c more p v unlike begins solid e ↦ refuses _ (no_header (is ∙ rw unlike refl) free unlike begins) (rw (e, solid) refl)
      ])

  ended : Ends (header start (line ++ r) (past start))
  unfolding header
  ended = elim (cases_Bool (has_zero line)) [
    | inl z ↦ let q = zero_fails start style line r z in refuses _ (zero_digit q.0 z) (rw q.1 refl)
    | inr z ↦ elim (cases_Option (after_style style (front line))) [ inl e ↦ absurd (some_header start style line z e) | inr h ↦ finish h.0 z h.1 ]
  ]

pub headers_end : HeadersEndAsTheirLineSays
headers_end style line after p inner ends = ended p style line after inner ends

-- ---- what a header says of itself, and that the model reads it so

-- what a header and its first character say of each other; it has no digit 0
pub record Said (c : ℕ) (h : defs.Header) : Type 0 where
  pub begins : c ≡ indicator_of h.style
  pub digit_is : digit_by (digit_or_zero h.digit) ≡ h.digit

pub said : (c : ℕ) (l : List ℕ) (h : defs.Header) → header_of (c ∷ l) ≡ Some h → Said c h
unfolding digit_of sign_of
said c l h e = grind (arith, eqb-true)

-- ---- the model reads it

module _ (h : defs.Header) (line after : List ℕ) (p : Position) (is : header_of (indicator_of h.style ∷ line) ≡ Some h) where
  -- what is read of a header's line is the header
  own : (r : Read Header) → IsHeaderRead p h.style line after r → (begins_with tab (linebreak after p).rest ≡ false) × (r ≡ read_header h after (along line (past p)))
  own r (whole_header g f t) = let same : g ≡ h = (let x : Some g ≡ Some h = sym f ∙ is in cc) in (t, ap (λ k. read_header k after (along line (past p))) same)

  -- it is refused for a TAB only
  for_tab : (f : Fault) → IsHeaderRefusal p h.style line after f → (begins_with tab (linebreak after p).rest ≡ true) × (f ≡ At BlockScalarTab p)
  for_tab f a = grind (arith, is)

  pub header_reads : is_in_line line ≡ true → ends_line after ≡ true → begins_with tab (linebreak after p).rest ≡ false → header p (line ++ after) (past p) ≡ Ok (read_header h after (along line (past p)))
  header_reads inner ends still = elim (headers_end h.style line after p inner ends) [ reads r k e ↦ e ∙ ap Ok (own r k).1 | refuses f why e ↦ let no = (for_tab f why).0 in absurd (cc (no, still)) ]

  pub header_tabs : is_in_line line ≡ true → ends_line after ≡ true → begins_with tab (linebreak after p).rest ≡ true → header p (line ++ after) (past p) ≡ Err (At BlockScalarTab p)
  header_tabs inner ends begins = elim (headers_end h.style line after p inner ends) [ reads r k e ↦ let no = (own r k).0 in absurd (cc (no, begins)) | refuses f why e ↦ e ∙ ap Err (for_tab f why).1 ]

pub linebreak_put : (k : Break) (a : List ℕ) (q : Position) → Fits k a → linebreak (put k a) q ≡ record { rest = a; position = after_break k q; value = tt }
linebreak_put b a q fits = grind arith
