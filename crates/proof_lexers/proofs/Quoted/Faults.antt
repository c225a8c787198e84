-- Escapes that are none are refused.
use Rattle.proof_lexers.proofs.Common.{At, cases_Bool, content, Context, digits_from, Err, escape, escape_by, escapes, false, Folded, inl, inr, inside, is_blank, is_break, is_character_code, IsBadEscape, length, List, lookup, named_code, named_unknown, no_digit, None, number_at, numbered, numeric_escape, numeric_escapes, Option, past, Position, Problem, refl, Some, suc, take, ℕ, ◌==◌, ◌∙◌, ◌∷◌, ◌≡◌, arith, nat_tests, EscapedCode, HexadecimalDigit, UnknownEscape, same_break, same_escape}
use Rattle.proof_lexers.specs.QuotedEnds.{ends, unknown, no_character}
use Rattle.proof_lexers.proofs.Quoted.Turns.{scan, spelled}
use Rattle.proof_lexers.proofs.Quoted.Elements.{has_digits, digits_read}

module _ (ctx : Context) (start : Position) where
  pub record Fails (b : List ℕ) (p : Position) (u : Folded) : Type 0 where
    pub why : Problem
    pub bad : IsBadEscape b why
    pub is : scan false ctx start (92 ∷ b) inside p u ≡ Err (At why start)

  to_digits : (d n : ℕ) (b : List ℕ) (p : Position) (u : Folded) → is_break d ≡ false → lookup d escapes ≡ None → lookup d numeric_escapes ≡ Some n → scan false ctx start (92 ∷ d ∷ b) inside p u ≡ digits_from false ctx start n 0 b (past (past p)) u
  unfolding is_break is_blank
  to_digits d n b p u e f g = grind (arith, nat_tests, named_code, same_escape, has_digits)

  code_fails_by : (d n : ℕ) (b : List ℕ) (p : Position) (u : Folded) (o : Option ℕ) → is_break d ≡ false → lookup d escapes ≡ None → lookup d numeric_escapes ≡ Some n → number_at n b ≡ o → numbered n o ≡ None → Fails (d ∷ b) p u
  code_fails_by d n b p u None e f g number h = record { why = HexadecimalDigit; bad = no_digit d n b f g number; is = to_digits d n b p u e f g ∙ digits_read ctx start n 0 b (past (past p)) u ∙ rw number refl }
  code_fails_by d n b p u (Some code) e f g number h = elim (cases_Bool (is_character_code code)) [
    | inl valid ↦ let no : Some (spelled (content code) (suc n)) ≡ None = rw valid at h in cc
    | inr invalid ↦ record { why = EscapedCode; bad = no_character d n code b f g number invalid; is = to_digits d n b p u e f g ∙ digits_read ctx start n 0 b (past (past p)) u ∙ rw (number, invalid) refl }
  ]

  rows_fail : (d : ℕ) (b : List ℕ) (p : Position) (u : Folded) (o n : Option ℕ) → is_break d ≡ false → lookup d escapes ≡ o → lookup d numeric_escapes ≡ n → escape_by o n b ≡ None → Fails (d ∷ b) p u
  unfolding numeric_escape is_break is_blank
  rows_fail d b p u (Some code) n e f g h = cc
  rows_fail d b p u None (Some n) e f g h = code_fails_by d n b p u (number_at n b) e f g refl (elim (cases_Bool (length (take n b) == n)) [ inl e ↦ rw e (rw e at h) | inr e ↦ rw e refl ])
  rows_fail d b p u None None e f g h = record {
    why = UnknownEscape;
    bad = unknown d b (same_break d ∙ e) f g;
    is = (rw e refl) ∙ named_unknown false ctx start d (d ∷ b) (past p) u (same_escape d ∙ rw (f, g) refl) refl;
  }

  pub escape_fails : (b : List ℕ) (p : Position) (u : Folded) → escape b ≡ None → Fails b p u
  unfolding escape is_break is_blank
  escape_fails b p u h = grind (arith, ends, rows_fail, same_break)
