-- The blanks and the comment that the model passes in a line are a separation.
use Rattle.proof_lexers.proofs.Common.{[], after, ap, are_spaces, arith, begins_with, cases_Bool, ends_spaces, EndsAs, eqb-true, false, further, has_break, has_no_break, inl, inr, is_separation, leading, length, length-append, List, not, Ok, Position, reads, refl, refuses, space, spaces, SpacesArePassed, sym, true, ℕ, ◌++◌, ◌==◌, ◌||◌, ◌∙◌, ◌∷◌, ◌≡◌, nat_tests, has, skip_while, none_further, same_place, span_cut}
use Rattle.defs_text.specs.Classes as classes
use Rattle.model_scanner.specs.Blanks.{after_spaces, is_line}
use Rattle.model_scanner.specs.declared.context.SkipTabs.{SkipTabs}
use Rattle.proof_lexers.specs.DirectiveEnds.{ends_line}
use Rattle.proof_lexers.specs.Separations.{IsGlued, HasSpaces, glued}
use Rattle.proof_lexers.proofs.RestOfLine.{first_line, found_in, in_line, is_space, line_skipped, nothing_found, spaces_passed}
use Rattle.proof_lexers.proofs.Separation.Positions.{position_in_line}

no_break_is : (a : List ℕ) → has_break a ≡ not (has_no_break a)
no_break_is [] = refl
no_break_is (c ∷ a) = grind (arith, no_break_is a)

-- the spaces that a text begins with, what they leave, and whether any was found
leading_spaces : (tabs : SkipTabs) (a : List ℕ)
    → (are_spaces tabs (leading (is_space tabs) a) ≡ true) × (ends_spaces tabs (after (is_space tabs) a) ≡ not (begins_with 35 (after (is_space tabs) a)))
    × ((has 9 (leading (is_space tabs) a) || has 32 (leading (is_space tabs) a)) ≡ false → leading (is_space tabs) a ≡ [])
leading_spaces tabs [] = (refl, refl, λ e. refl)
leading_spaces tabs (c ∷ a) = grind (arith, nat_tests, leading_spaces tabs a)

-- spaces before a separation of one line are one
filled : (tabs : SkipTabs) (b c rest : List ℕ) → are_spaces tabs b ≡ true → has_no_break c ≡ true → is_separation false c rest ≡ true
    → (is_separation false (b ++ c) rest ≡ true) × (has_no_break (b ++ c) ≡ true)
unfolding classes.is_blank classes.is_break
filled tabs [] c rest h line is = (is, line)
filled tabs (d ∷ b) c rest h line is = grind (arith, nat_tests, filled tabs b c rest)

-- a comment goes on to its line's end
commented : (tabs : SkipTabs) (m n : List ℕ) → has_no_break m ≡ true → ends_line n ≡ true
    → (is_separation true m n ≡ true) × (ends_spaces tabs n ≡ true)
unfolding classes.is_break
commented tabs [] n h k = grind (arith, nat_tests)
commented tabs (c ∷ m) n h k = grind (arith, commented tabs m n)

pub spaces_are_passed : SpacesArePassed
unfolding space classes.is_blank classes.is_break
spaces_are_passed tabs text p = rw (spaces_passed tabs text p nothing_found) (by (after (is_space tabs) text) refl)
  where
    before : List ℕ
    before = leading (is_space tabs) text

    ended : (comment rest : List ℕ) (q : Position) → text ≡ before ++ (comment ++ rest)
        → q ≡ further (length comment) (further (length before) p) → has_no_break comment ≡ true
        → is_separation false comment rest ≡ true → ends_spaces tabs rest ≡ true
        → EndsAs (HasSpaces tabs p text) (IsGlued p text) (Ok (record { rest = rest; position = q; value = found_in nothing_found before }))
    ended comment rest q cut place line is ends =
        let are = (leading_spaces tabs text).0 in
        let z = filled tabs before comment rest are line is in
        let long = length-append before comment in
        reads _ (spaces before comment rest cut are z.0 (no_break_is (before ++ comment) ∙ ap not z.1) ends)
        (ap (λ q. Ok (record { rest = rest; position = q; value = found_in nothing_found before }))
        (place ∙ same_place p (length (before ++ comment)) (omega (arith, long)) (omega (arith, long)) ∙ position_in_line p (before ++ comment) rest z.1))

    cut : (r : List ℕ) → after (is_space tabs) text ≡ r → text ≡ before ++ r
    cut r e = span_cut (is_space tabs) text ∙ ap (λ x. before ++ x) e

    by : (r : List ℕ) → after (is_space tabs) text ≡ r
        → EndsAs (HasSpaces tabs p text) (IsGlued p text) (after_spaces r (record { position = further (length before) p; found = found_in nothing_found before }))
    by [] e = ended [] [] _ (cut [] e) (sym (none_further _)) refl refl refl
    by (c ∷ a) e = elim (cases_Bool (c == 35)) [
      | inr f ↦ rw f (ended [] (c ∷ a) _ (cut (c ∷ a) e) (sym (none_further _)) refl refl
          (ap (ends_spaces tabs) (sym e) ∙ (leading_spaces tabs text).1 ∙ ap (λ r. not (begins_with 35 r)) e ∙ rw f refl))
      | inl f ↦ elim (cases_Bool (has 9 before || has 32 before)) [
        | inr g ↦
            let none = (leading_spaces tabs text).2 g in
            rw (f, g) (refuses _ (glued (rw (cut (c ∷ a) e, none) f)) (rw (none, none_further p) refl))
        | inl g ↦
            let z = first_line a in
            let y = commented tabs (leading in_line a) (after in_line a) z.0 z.1 in
            let hash : c ≡ 35 = eqb-true c 35 f in
            let more : c ∷ a ≡ (35 ∷ leading in_line a) ++ after in_line a = rw (hash) (ap (λ r. 35 ∷ r) (span_cut in_line a)) in
            let skipped = ap (λ x. skip_while is_line x (further (length before) p)) more ∙ line_skipped (35 ∷ leading in_line a) (after in_line a) _ z.0 z.1 in
            rw (f, g, skipped) (ended (35 ∷ leading in_line a) (after in_line a) _ (cut _ (e ∙ more)) refl z.0 y.0 y.1)
      ]
    ]
