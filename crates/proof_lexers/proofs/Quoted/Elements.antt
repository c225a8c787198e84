-- What the model does at each element of a body in single and in double quotes.
use Rattle.proof_lexers.proofs.Common.{escapes, [], along, and_parts, arith, Bool, break_further, by_line, cases_Bool, cases_Option, Char, Code, coded, content, Context, count_of, digit_turn, digit_value, digits_from, double_quoted_element, drop, element_of, eqb-true, Escape, escape, escape_of, escaped_break, false, Fault, Folded, has_marker, hexadecimal, if◌then◌else◌, inl, inr, inside, is_blank, is_break, is_character_code, is_document_marker, joined, length, List, list_all, lookup, named_char, named_code, nat_tests, ne_eqb, None, numeric_escape, numeric_escapes, Option, past, past_break, Position, Read, refl, Result, single_quoted_element, slice_index, Some, suc, sym, take, true, Unknown, with_char, with_escaped_break, zero, ℕ, ◌&&◌, ◌*◌, ◌++◌, ◌+◌, ◌==◌, ◌||◌, ◌∙◌, ◌∷◌, ◌≡◌, Err, coded_fails, At, digit_fails, length-take, take-append-le, EscapedCode, HexadecimalDigit, is_some, is_nul, same_break, same_digit, same_code, digits_of, same_escape, and_false, both, ap, not, plain_element, quote_of, same_blank, begins_with}
use Rattle.std.proofs.lemmas.List.{drop-append-le}
use Rattle.defs_text.specs.Classes as classes
use Rattle.model_scanner.specs.Quoted.{after}
use Rattle.proof_lexers.proofs.Quoted.Turns.{feed_is_no_marker, after_escaped, scan, Begun, begun, marked, shallow, begins, Step, steps, is_marked, is_shallow, StepOf, spelled, content_step, break_step, blank_by}

-- a code has two digits, four or eight
pub has_digits : (d n : ℕ) → lookup d numeric_escapes ≡ Some n → count_of (digits_of n) ≡ n
has_digits d n h = grind arith

-- the number of so many digits after a value, if they are there
abbrev pub number_after : ℕ → ℕ → List ℕ → Option ℕ
number_after n value b = (if length (take n b) == n then hexadecimal value (take n b) else None)

-- a known escape is none, and no break is
known_some : (d : ℕ) (e : Escape) → escape_of d ≡ e → (e ≡ Unknown → ⊥) → (d == 0) ≡ false
unfolding escape_of
known_some d e h known = ne_eqb d 0 (λ z. known (sym h ∙ rw z refl))

no_white : (is_break 92 || is_blank 92) ≡ false
unfolding is_break is_blank
no_white = refl

-- ---- in double quotes

module _ (ctx : Context) (start : Position) where
  -- what a scan makes of a code's number
  abbrev pub coded_end : List ℕ → Position → Folded → Option ℕ → Result (Read (List ℕ)) Fault
  coded_end a p u None = Err (At HexadecimalDigit start)
  coded_end a p u (Some code) = (if is_character_code code then scan false ctx start a inside p (with_char code u) else Err (At EscapedCode start))

  -- The digits of a code are taken, or refused.
  pub digits_read : (n value : ℕ) (b : List ℕ) (p : Position) (u : Folded) → digits_from false ctx start n value b p u ≡ coded_end (drop n b) (along (take n b) p) u (number_after n value b)
  digits_read zero value b p u = grind (arith, nat_tests, coded, same_code, coded_fails)
  digits_read (suc n) value [] p u = grind (arith, nat_tests)
  digits_read (suc n) value (c ∷ b) p u = grind (arith, nat_tests, digit_turn, same_digit, past, both, digit_fails, digits_read n (value * 16 + digit_value c) b (past p) u)

  counted : (n code : ℕ) (b r : List ℕ) (p : Position) (u : Folded) → (length (take n b) == n) ≡ true → hexadecimal 0 (take n b) ≡ Some code → is_character_code code ≡ true
      → digits_from false ctx start n 0 (b ++ r) p u ≡ scan false ctx start (drop n b ++ r) inside (along (take n b) p) (with_char code u)
  counted n code b r p u many a valid = grind (arith, nat_tests, eqb-true, length-take, digits_read, take-append-le, drop-append-le)

  over_digits : (n value code : ℕ) (b r : List ℕ) → hexadecimal value (take n b) ≡ Some code → (has_marker b r ≡ has_marker (drop n b) r) × (list_all is_some b ≡ list_all is_some (drop n b))
  unfolding classes.is_break
  over_digits (suc n) value code (c ∷ b) r h = grind (arith, nat_tests, over_digits n (value * 16 + digit_value c) code b r)
  over_digits _ value code b r h = (refl, refl)

  -- an escape by number
  numeric_step : (d n : ℕ) (b r : List ℕ) (p : Position) (t : Folded) → is_break d ≡ false → escape_of d ≡ Code (digits_of n) → lookup d numeric_escapes ≡ Some n → StepOf false ctx start 92 (d ∷ b) r p t (numeric_escape n b)
  unfolding numeric_escape classes.is_break is_break is_blank
  numeric_step d n b r p t e f digits = elim (cases_Bool (length (take n b) == n)) [
    | inr many ↦ rw many tt
    | inl many ↦ elim (cases_Option (hexadecimal 0 (take n b))) [
      | inl h ↦ rw (many, h) tt
      | inr code ↦ elim (cases_Bool (is_character_code code.0)) [
        | inr valid ↦ rw (many, code.1, valid) tt
        | inl valid ↦
            let z = counted n code.0 b r (past (past p)) (joined t) many code.1 valid in
            let over = over_digits n 0 code.0 b r code.1 in
            let some : (d == 0) ≡ false = known_some d (Code (digits_of n)) f (λ h. cc) in
            let named = named_code false ctx start d (digits_of n) (d ∷ (b ++ r)) (b ++ r) (past p) (joined t) f refl ∙ ap (λ k. digits_from false ctx start k 0 (b ++ r) (past (past p)) (joined t)) (has_digits d n digits) in
            rw (many, code.1, valid) (content_step false ctx start 92 (d ∷ b) r (suc n) code.0 p t no_white (rw e named ∙ z) (rw (same_break d, e) over.0) (rw some over.1))
      ]
    ]
  ]

  -- ---- an escaped break

  broken_by : (d : ℕ) (b r : List ℕ) (k : ℕ) (p q : Position) (t : Folded)
      → scan false ctx start (92 ∷ d ∷ (b ++ r)) inside p (joined t) ≡ scan false ctx start (drop k b ++ r) after (past_break q) (with_escaped_break (joined t))
      → has_marker (d ∷ b) r ≡ (is_document_marker (drop k b ++ r) || has_marker (drop k b) r) → list_all is_some (d ∷ b) ≡ list_all is_some (drop k b)
      → Begun false ctx start (92 ∷ d ∷ (b ++ r)) p t → Step false ctx start 92 (d ∷ b) r p t (spelled escaped_break (suc k))
  unfolding classes.is_break
  broken_by d b r k p q t is marks full (begun none deep e) = steps after (past_break q) tt (after_escaped refl refl refl) full none marks (e ∙ is)
  broken_by d b r k p q t is marks full (marked e f) = is_marked e f
  broken_by d b r k p q t is marks full (shallow e f) = is_shallow e (by_line p e f)

  lone_broken_step : (d : ℕ) (b r : List ℕ) (p : Position) (t : Folded) → is_break d ≡ true → ((d == 13) && (slice_index (b ++ r) 0 == 10)) ≡ false → Step false ctx start 92 (d ∷ b) r p t (spelled escaped_break 1)
  unfolding is_break is_blank
  lone_broken_step d b r p t e f =
      let g : classes.is_break d ≡ true = same_break d ∙ e in
      let break_some : (d == 0) ≡ false = grind (arith, nat_tests) in
      broken_by d b r 0 p (past p) t (rw (e, f) refl) (rw g refl) (rw (break_some) refl) (begins false ctx start 92 (d ∷ (b ++ r)) p t no_white)

  broken_step : (d : ℕ) (b r : List ℕ) (p : Position) (t : Folded) → (slice_index r 0 == 10) ≡ false → is_break d ≡ true → Step false ctx start 92 (d ∷ b) r p t (spelled escaped_break (suc (break_further d b)))
  unfolding is_break is_blank classes.is_break
  broken_step d [] r p t no_feed e = lone_broken_step d [] r p t e (rw no_feed (and_false (d == 13)))
  broken_step d (f ∷ b) r p t no_feed e = elim (cases_Bool ((d == 13) && (f == 10))) [
    | inl g ↦
        let both = and_parts (d == 13) (f == 10) g in
        rw (eqb-true d 13 both.0, eqb-true f 10 both.1) (broken_by 13 (10 ∷ b) r 1 p (past (past p)) t refl (rw (feed_is_no_marker (b ++ r)) refl) refl (begins false ctx start 92 (13 ∷ 10 ∷ (b ++ r)) p t no_white))
    | inr g ↦ rw g (lone_broken_step d (f ∷ b) r p t e g)
  ]

  -- after a backslash
  escape_step : (b r : List ℕ) (p : Position) (t : Folded) → (slice_index r 0 == 10) ≡ false → StepOf false ctx start 92 b r p t (escape b)
  unfolding escape classes.is_break is_break is_blank
  escape_step [] r p t no_feed = tt
  escape_step (d ∷ a) r p t no_feed = elim (cases_Bool (is_break d)) [
    | inl e ↦ rw (same_break d, e) (broken_step d a r p t no_feed e)
    | inr e ↦ elim (cases_Option (lookup d escapes)) [
      | inr code ↦
          let is : escape_of d ≡ Char code.0 = same_escape d ∙ rw code.1 refl in
          rw (same_break d, e, code.1) (content_step false ctx start 92 (d ∷ a) r 1 code.0 p t no_white (rw e (named_char false ctx start d code.0 (d ∷ (a ++ r)) (a ++ r) (past p) (joined t) is refl))
          (rw (same_break d, e) refl) (rw (known_some d (Char code.0) is (λ h. cc)) refl))
      | inl f ↦ elim (cases_Option (lookup d numeric_escapes)) [
        | inl g ↦ rw (same_break d, e, f, g) tt
        | inr n ↦ rw (same_break d, e, f, n.1) (numeric_step d n.0 a r p t e (same_escape d ∙ rw (f, n.1) refl) n.1)
      ]
    ]
  ]

-- ---- in either

-- a break, a blank, or a character that means itself
plain_step : (single : Bool) (ctx : Context) (start : Position) (c : ℕ) (b r : List ℕ) (p : Position) (t : Folded) → (slice_index r 0 == 10) ≡ false → ((c == 92) && not single) ≡ false → (c == quote_of single) ≡ false
    → StepOf single ctx start c b r p t (if is_nul c then None else plain_element c b)
unfolding plain_element is_nul
plain_step single ctx start c b r p t no_feed slash quote = elim (cases_Bool (c == 0)) [
  | inl nul ↦ rw nul tt
  | inr nul ↦ elim (cases_Bool (is_break c)) [
    | inl e ↦ rw (same_break c, nul, e) (break_step single ctx start c b r p t no_feed e nul)
    | inr e ↦ elim (cases_Bool (is_blank c)) [
      | inl f ↦ rw (same_break c, same_blank c, nul, e, f) (blank_by single ctx start c b r p t e f nul)
      | inr f ↦ rw (same_break c, same_blank c, nul, e, f) (content_step single ctx start c b r 0 c p t (rw (e, f) refl) (rw (e, f, slash, quote) refl) (rw (same_break c, e) refl) (rw nul refl))
    ]
  ]
]

two_quotes : (ctx : Context) (start : Position) (b r : List ℕ) (p : Position) (t : Folded) → StepOf true ctx start 39 b r p t (if begins_with 39 b then Some (spelled (content 39) 1) else None)
unfolding classes.is_break is_break is_blank
two_quotes ctx start [] r p t = tt
two_quotes ctx start (d ∷ b) r p t = elim (cases_Bool (d == 39)) [ inl h ↦ rw (eqb-true d 39 h) (content_step true ctx start 39 (39 ∷ b) r 1 39 p t refl refl refl refl) | inr h ↦ rw h tt ]

-- The scan at an element, in single or in double quotes.
pub step : (single : Bool) (ctx : Context) (start : Position) (c : ℕ) (b r : List ℕ) (p : Position) (t : Folded) → (slice_index r 0 == 10) ≡ false → StepOf single ctx start c b r p t (element_of single c b)
unfolding single_quoted_element double_quoted_element is_nul
step true ctx start c b r p t no_feed = elim (cases_Bool (c == 39)) [
  | inl quote ↦ rw (eqb-true c 39 quote) (two_quotes ctx start b r p t)
  | inr quote ↦ rw quote (plain_step true ctx start c b r p t no_feed (and_false (c == 92)) quote)
]
step false ctx start c b r p t no_feed = elim (cases_Bool (c == 92)) [
  | inl slash ↦ rw (eqb-true c 92 slash) (escape_step ctx start b r p t no_feed)
  | inr slash ↦ elim (cases_Bool (c == 34)) [
    | inl quote ↦ rw (eqb-true c 34 quote) tt
    | inr quote ↦ rw (quote, slash) (plain_step false ctx start c b r p t no_feed (rw slash refl) quote)
  ]
]
