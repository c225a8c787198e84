-- Parts of a directive's line, as the model reads them: words, numbers, a handle, and what may stand after its value.
use Rattle.proof_lexers.proofs.Common.{[], after, all_of, and_parts, ap, append_assoc, arith, At, begins_with_mark, both_ways, cases_Bool, decimal_value, eqb-true, Err, false, Fault, further, handle, handle_and_rest, handle_end, if◌then◌else◌, inl, inr, is_empty, is_handle, is_marked_name, is_same, leading, length, length-append, List, nat_le, ne_eqb, None, number, number_of, Ok, Option, past, Position, Read, refl, Result, slice_index, Some, sym, true, ℕ, ◌++◌, ◌==◌, ◌∙◌, ◌∷◌, ◌≡◌, nat_tests, and_assoc, Bool, codes, Digits, directive_break, drop, first_break, is_alpha, is_alphanumeric, is_at_gap, is_blank, is_blank_or_breakz, is_break, kind, next_line, not, position_after, run, Stop, tag, unknown, version, ◌&&◌, ◌*◌, ◌+◌, ◌-◌, ◌≤◌, TagDirectiveHandle, TagStart, VersionNumber, VersionTooLong, is_decimal_digit, is_letter, same_break, same_gap, same_alpha, same_place, all_leading, before_end, span_cut, one_further}
use Rattle.defs_text.specs.Classes as classes
use Rattle.proof_lexers.specs.DirectiveEnds.{ends_line}
use Rattle.proof_lexers.proofs.Properties.Tags.{word}
use Rattle.yaml_chars.specs.Class.{is_digit}
use Rattle.model_scanner.specs.Directive.{digit_turn}
use Rattle.proof_lexers.proofs.RestOfLine.{none_at_end}
use Rattle.proof_lexers.proofs.Plain.Turns.{same_feed, in_line_position, line_position}
use Rattle.proof_lexers.proofs.Blocks.Positions.{feed_past}

-- ---- the rest of a line

-- the break at a line's end, or the end
pub break_read : (start p : Position) (n : List ℕ) → ends_line n ≡ true → directive_break start n p ≡ Ok (record { rest = next_line n; position = position_after p (first_break n) (next_line n); value = tt })
unfolding directive_break
break_read start p n k = grind (arith, same_break, same_feed, line_position, past, eqb-true, feed_past, in_line_position)

-- ---- numbers

-- what a version's number leaves, by its digits and how many were read before them
abbrev digits_read : (start p : Position) (v k : ℕ) → (a : List ℕ) → Result (Stop Digits) Fault
digits_read start p v k a =
    (if nat_le (k + length (leading is_decimal_digit a)) 9
    then Ok (record { rest = after is_decimal_digit a; state = record { position = further (length (leading is_decimal_digit a)) p; value = decimal_value v (leading is_decimal_digit a); length = k + length (leading is_decimal_digit a) } })
    else Err (At VersionTooLong start))

digits_run : (start : Position) (a : List ℕ) (p : Position) (v k : ℕ) → k ≤ 9 → run (digit_turn start) a (record { position = p; value = v; length = k }) ≡ digits_read start p v k a
unfolding is_decimal_digit is_digit
digits_run start [] p v k few = grind arith
digits_run start (c ∷ a) p v k few = grind (arith, nat_tests, one_further, digits_run start a (past p) (v * 10 + (c - 48)) (k + 1))

-- what the scan of a version's number is, by the digits that stand there, what is left after them, and the number that they are
abbrev pub number_by : (start p : Position) → (digits rest : List ℕ) → Option ℕ → Result (Read ℕ) Fault
number_by start p w rest None = Err (At (if is_empty w then VersionNumber else VersionTooLong) start)
number_by start p w rest (Some v) = Ok (record { rest = rest; position = further (length w) p; value = v })

pub number_is : (start p : Position) (b n : List ℕ) → ends_line n ≡ true
    → number start (b ++ n) p ≡ number_by start p (leading is_decimal_digit b) (after is_decimal_digit b ++ n) (number_of (leading is_decimal_digit b))
unfolding is_decimal_digit number
number_is start p b n h =
    let all : number start (b ++ n) p ≡ number_by start p (leading is_decimal_digit (b ++ n)) (after is_decimal_digit (b ++ n)) (number_of (leading is_decimal_digit (b ++ n))) = grind (arith, digits_run, after, further) in
    let q = before_end is_decimal_digit b n (none_at_end is_decimal_digit refl refl n h) in
    rw (all, q.0, q.1) refl

-- ---- names

-- whether a text begins with a word, which ends there
abbrev spells : List ℕ → List ℕ → Bool
spells [] a = not (is_alpha (slice_index a 0))
spells (c ∷ w) a = (slice_index a 0 == c) && spells w (drop 1 a)

first_at_end : (n : List ℕ) → ends_line n ≡ true → is_alpha (slice_index n 0) ≡ false
unfolding is_alpha is_alphanumeric classes.is_alpha is_decimal_digit is_letter
first_at_end [] h = refl
first_at_end (c ∷ n) h = sym (same_alpha c) ∙ none_at_end classes.is_alpha refl refl (c ∷ n) h

distinct : (x d : ℕ) → is_alpha x ≡ false → classes.is_alpha d ≡ true → (x == d) ≡ false
distinct x d h k = ne_eqb x d (λ same. both_ways (is_alpha x) h (ap is_alpha same ∙ sym (same_alpha d) ∙ k))

pub spells_name : (w l n : List ℕ) → all_of classes.is_alpha w ≡ true → ends_line n ≡ true → spells w (l ++ n) ≡ is_same (leading classes.is_alpha l) w
spells_name [] [] n h k = rw (first_at_end n k) refl
spells_name [] (c ∷ l) n h k = grind (arith, same_alpha)
spells_name (d ∷ w) [] n h k = grind (arith, distinct, first_at_end)
spells_name (d ∷ w) (c ∷ l) n h k = grind (arith, same_alpha, distinct, spells_name w l n)

-- the kind of a directive by its name
pub kind_is : (l n : List ℕ) → ends_line n ≡ true
    → kind (l ++ n) ≡ (if is_same (leading classes.is_alpha l) (codes "YAML") then version else (if is_same (leading classes.is_alpha l) (codes "TAG") then tag else unknown))
unfolding kind classes.is_alpha is_decimal_digit is_letter
kind_is l n h = let first = spells_name (codes "YAML") l n refl h in let second = spells_name (codes "TAG") l n refl h in grind (arith, and_assoc, first, second)

-- whether a blank, a break or the end stands after part of a line
pub gap_is : (m n : List ℕ) → ends_line n ≡ true → is_blank_or_breakz (slice_index (m ++ n) 0) ≡ is_at_gap m
unfolding is_blank is_break classes.is_break
gap_is a n h = grind (arith, eqb-true, same_gap)

-- ---- a handle

-- What the scan of a handle sees in a line: no mark; a name without a second mark; or the handle that stands there.
pub data HandleSees (start p : Position) (t n : List ℕ) (x : Result (Read (List ℕ)) Fault) : Type 0 where
  no_mark : begins_with_mark t ≡ false → is_handle (handle_and_rest t).0 ≡ false → x ≡ Err (At TagStart start) → HandleSees start p t n x
  open_name : (c : ℕ) (name rest : List ℕ) → t ≡ 33 ∷ rest → leading classes.is_alpha rest ≡ c ∷ name → begins_with_mark (after classes.is_alpha rest) ≡ false → is_handle (handle_and_rest t).0 ≡ false
      → x ≡ Err (At TagDirectiveHandle start) → HandleSees start p t n x
  found : is_handle (handle_and_rest t).0 ≡ true → t ≡ (handle_and_rest t).0 ++ (handle_and_rest t).1
      → x ≡ Ok (record { rest = (handle_and_rest t).1 ++ n; position = further (length (handle_and_rest t).0) p; value = (handle_and_rest t).0 }) → HandleSees start p t n x

-- a name alone is no handle, and one with a mark after it is
marked : (c : ℕ) (w : List ℕ) → all_of classes.is_alpha (c ∷ w) ≡ true → (is_marked_name (c ∷ w) ≡ false) × (is_marked_name ((c ∷ w) ++ 33 ∷ []) ≡ true)
unfolding classes.is_alpha is_decimal_digit is_letter
marked c [] h = let q = and_parts (classes.is_alpha c) true h in ((ne_eqb c 33 (λ same. both_ways (classes.is_alpha 33) refl (ap classes.is_alpha (sym same) ∙ q.0))), rw q.0 refl)
marked c (d ∷ w) h = grind (arith, and_parts, marked d w)

handle_of : (w : List ℕ) → all_of classes.is_alpha w ≡ true → is_handle (33 ∷ (w ++ 33 ∷ [])) ≡ true
handle_of [] h = refl
handle_of (c ∷ w) h = (marked c w h).1

-- what stands at a line's end is another character
pub not_at_end : (k : ℕ) → (0 == k) ≡ false → (10 == k) ≡ false → (13 == k) ≡ false → (n : List ℕ) → ends_line n ≡ true → (slice_index n 0 == k) ≡ false
not_at_end k nul lf cr [] h = nul
not_at_end k nul lf cr (c ∷ n) h = none_at_end (λ d. d == k) lf cr (c ∷ n) h

-- a name without a second mark is no handle
pub no_handle : (c : ℕ) (w r : List ℕ) → leading classes.is_alpha r ≡ c ∷ w → begins_with_mark (after classes.is_alpha r) ≡ false → is_handle (handle_and_rest (33 ∷ r)).0 ≡ false
no_handle c w r lead none = let alone = (marked c w (ap (all_of classes.is_alpha) (sym lead) ∙ all_leading classes.is_alpha r)).0 in grind (arith, alone)

module _ (start p : Position) (r n : List ℕ) (ends : ends_line n ≡ true) where
  -- none stands there
  without_mark : (w s : List ℕ) → leading classes.is_alpha r ≡ w → after classes.is_alpha r ≡ s → r ≡ w ++ s → all_of classes.is_alpha w ≡ true → begins_with_mark s ≡ false
      → HandleSees start p (33 ∷ r) n (if is_same w [] then Ok (record { rest = s ++ n; position = further (length w) (past p); value = 33 ∷ w }) else Err (At TagDirectiveHandle start))
  without_mark [] s lead rest cut all none = grind arith
  without_mark (c ∷ w) s lead rest cut all none =
      let unmarked : begins_with_mark (after classes.is_alpha r) ≡ false = ap begins_with_mark rest ∙ none in
      open_name c w r refl lead unmarked (no_handle c w r lead unmarked) refl

  after_name : (w s : List ℕ) → leading classes.is_alpha r ≡ w → after classes.is_alpha r ≡ s → r ≡ w ++ s → all_of classes.is_alpha w ≡ true
      → HandleSees start p (33 ∷ r) n (handle_end start (is_same w []) (33 ∷ w) (s ++ n) (further (length w) (past p)))
  after_name w [] lead rest cut all = let none = not_at_end 33 refl refl refl n ends in rw none (without_mark w [] lead rest cut all refl)
  after_name w (d ∷ s) lead rest cut all = elim (cases_Bool (d == 33)) [
    | inl e ↦ let same : d ≡ 33 = eqb-true d 33 e in rw same (grind (arith, nat_tests, handle_of, append_assoc, same_place, length-append))
    | inr e ↦ rw e (without_mark w (d ∷ s) lead rest cut all e)
  ]

  marked_handle : HandleSees start p (33 ∷ r) n (handle start (33 ∷ (r ++ n)) p)
  unfolding handle classes.is_alpha is_decimal_digit is_letter
  marked_handle =
      let q = before_end classes.is_alpha r n (none_at_end classes.is_alpha refl refl n ends) in
      rw (spells_name [] r n refl ends, word (r ++ n) (past p) (33 ∷ []), q.0, q.1)
      (after_name (leading classes.is_alpha r) (after classes.is_alpha r) refl refl (span_cut classes.is_alpha r) (all_leading classes.is_alpha r))

pub handle_sees : (start p : Position) (t n : List ℕ) → ends_line n ≡ true → HandleSees start p t n (handle start (t ++ n) p)
unfolding handle
handle_sees start p [] n h = let none = not_at_end 33 refl refl refl n h in no_mark refl refl (rw none refl)
handle_sees start p (c ∷ r) n h = elim (cases_Bool (c == 33)) [
  | inl e ↦ let same : c ≡ 33 = eqb-true c 33 e in rw same (marked_handle start p r n h)
  | inr e ↦ no_mark e (rw e refl) (rw e refl)
]
