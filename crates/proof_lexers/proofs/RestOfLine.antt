-- How the rest of a line is read: blanks, and a comment after one.
use Rattle.proof_lexers.proofs.Common.{[], and-false, cases_Bool, not-true, ◌+◌, along, and_parts, arith, At, before_end, begins_in, begins_with, eqb-true, Err, false, Fault, further, has_no_break, inl, inr, is_blanks_and_comment, is_break, is_empty, is_in_line, is_line, is_rest_of_line, length, length-append, List, nat_tests, not, Ok, or_cases, past, Position, Read, refl, Result, same_place, skip_while, space, space_from, span_cut, sym, true, Whitespace, Yes, ℕ, ◌++◌, ◌==◌, ◌||◌, ◌∙◌, ◌∷◌, ◌≡◌, Bool, or-false, ◌&&◌, leading, has, after, CommentNotSeparated, same_break, none_further, one_further, ap}
use Rattle.defs_text.specs.Classes as classes
use Rattle.proof_lexers.specs.DirectiveEnds.{ends_line}
use Rattle.model_scanner.specs.Blanks.{after_spaces, are_skipped}
use Rattle.model_scanner.specs.declared.context.SkipTabs.{SkipTabs}

pub along_further : (w : List ℕ) (p : Position) → along w p ≡ further (length w) p
along_further [] p = sym (none_further p)
along_further (c ∷ w) p = along_further w (past p) ∙ one_further p (length w)

pub in_line_is : (w : List ℕ) → has_no_break w ≡ is_in_line w
in_line_is [] = refl
in_line_is (c ∷ w) = rw (in_line_is w) refl

-- a class without breaks does not go on after a line
pub none_at_end : (class : ℕ → Bool) → class 10 ≡ false → class 13 ≡ false → (n : List ℕ) → ends_line n ≡ true → begins_in class n ≡ false
unfolding classes.is_break
none_at_end class lf cr [] h = refl
none_at_end class lf cr (c ∷ n) h = elim (or_cases (c == 10) (c == 13) h) [ inl e ↦ rw (eqb-true c 10 e) lf | inr e ↦ rw (eqb-true c 13 e) cr ]

pub no_break_after : (a b : List ℕ) → has_no_break (a ++ b) ≡ true → has_no_break b ≡ true
no_break_after [] b h = h
no_break_after (c ∷ a) b h = no_break_after a b (and_parts (not (classes.is_break c)) (has_no_break (a ++ b)) h).1

-- all of a line without a break is skipped
pub line_skipped : (m n : List ℕ) (p : Position) → has_no_break m ≡ true → ends_line n ≡ true → skip_while is_line (m ++ n) p ≡ record { rest = n; position = further (length m) p; value = tt }
line_skipped [] n p h e = grind (arith, same_break, none_further)
line_skipped (c ∷ m) n p h e = grind (arith, same_break, one_further, line_skipped m n (past p))

-- ---- the first line of a text

pub in_line : ℕ → Bool
in_line c = not (classes.is_break c)

pub first_line : (a : List ℕ) → (has_no_break (leading in_line a) ≡ true) × (ends_line (after in_line a) ≡ true)
unfolding in_line
first_line [] = (refl, refl)
first_line (c ∷ a) = grind (arith, first_line a)

-- ---- spaces, and TABs where these are passed

abbrev pub is_space : SkipTabs → ℕ → Bool
is_space tabs c = (c == 32) || ((c == 9) && are_skipped tabs)

-- nothing was found yet
abbrev pub nothing_found : Whitespace
nothing_found = record { found_tabs = false; has_valid_yaml_ws = false }

-- what was found, and is found in a text
abbrev pub found_in : Whitespace → List ℕ → Whitespace
found_in w a = record { found_tabs = w.found_tabs || has 9 a; has_valid_yaml_ws = w.has_valid_yaml_ws || has 32 a }

pub spaces_passed : (tabs : SkipTabs) (a : List ℕ) (p : Position) (w : Whitespace) → space_from tabs a (record { position = p; found = w })
    ≡ after_spaces (after (is_space tabs) a) (record { position = further (length (leading (is_space tabs) a)) p; found = found_in w (leading (is_space tabs) a) })
spaces_passed tabs [] p w = grind (arith, none_further, or-false)
spaces_passed tabs (c ∷ a) p w = grind (
  arith,
  none_further,
  one_further,
  or-false,
  spaces_passed tabs a (past p) (record w { has_valid_yaml_ws = true }),
  spaces_passed tabs a (past p) (record w { found_tabs = true }),
)

-- ---- a line

-- blanks and maybe a comment are what leaves nothing or a comment after its blanks
blanks_left : (m : List ℕ) → is_blanks_and_comment m ≡ (is_empty (after (is_space Yes) m) || begins_with 35 (after (is_space Yes) m))
unfolding classes.is_blank
blanks_left [] = refl
blanks_left (c ∷ m) = grind (arith, nat_tests, blanks_left m)

-- a line by its blanks and what is left after them
parts : (m : List ℕ)
    → (is_rest_of_line m ≡ (is_empty (after (is_space Yes) m) || (begins_with 35 (after (is_space Yes) m) && not (is_empty (leading (is_space Yes) m)))))
    × (begins_with 35 m ≡ (is_empty (leading (is_space Yes) m) && begins_with 35 (after (is_space Yes) m)))
    × ((has 9 (leading (is_space Yes) m) || has 32 (leading (is_space Yes) m)) ≡ not (is_empty (leading (is_space Yes) m)))
unfolding classes.is_blank
parts [] = (refl, refl, refl)
parts (c ∷ m) = grind (arith, nat_tests, blanks_left m)

-- Nothing of the line is left; a comment stands there without a blank; or other text.
pub data Rest (m n : List ℕ) (p : Position) (x : Result (Read Whitespace) Fault) : Type 0 where
  ends : (w : Whitespace) → is_rest_of_line m ≡ true → x ≡ Ok (record { rest = n; position = further (length m) p; value = w }) → Rest m n p x
  glued : (text : List ℕ) → m ≡ 35 ∷ text → is_rest_of_line m ≡ false → x ≡ Err (At CommentNotSeparated p) → Rest m n p x
  goes_on : (c : ℕ) (more : List ℕ) (q : Position) (w : Whitespace) → is_rest_of_line m ≡ false → begins_with 35 m ≡ false → is_break c ≡ false → x ≡ Ok (record { rest = c ∷ more; position = q; value = w }) → Rest m n p x

pub rest_of_line : (m n : List ℕ) (p : Position) → has_no_break m ≡ true → ends_line n ≡ true → Rest m n p (space Yes (m ++ n) p)
unfolding space
rest_of_line m n p h k =
    let q = before_end (is_space Yes) m n (none_at_end (is_space Yes) refl refl n k) in
    rw (spaces_passed Yes (m ++ n) p nothing_found, q.0, q.1) (by (after (is_space Yes) m) refl)
  where
    before : List ℕ
    before = leading (is_space Yes) m

    here : Position
    here = further (length before) p

    found : Whitespace
    found = found_in nothing_found before

    place : (r : List ℕ) → after (is_space Yes) m ≡ r → further (length r) here ≡ further (length m) p
    place r e = let long : length m ≡ length before + length r = ap length (span_cut (is_space Yes) m ∙ ap (λ x. before ++ x) e) ∙ length-append before r in
        same_place p (length m) (omega (arith, long)) (omega (arith, long))

    by : (r : List ℕ) → after (is_space Yes) m ≡ r → Rest m n p (after_spaces (r ++ n) (record { position = here; found = found }))
    by [] e =
        let ended : after_spaces n (record { position = here; found = found }) ≡ Ok (record { rest = n; position = here; value = found }) =
        (let no = none_at_end (λ d. d == 35) refl refl n k in grind arith) in
        ends found ((parts m).0 ∙ rw e refl) (ended ∙ ap (λ q. Ok (record { rest = n; position = q; value = found })) (sym (none_further here) ∙ place [] e))
    by (c ∷ t) e = let z = parts m in let line = no_break_after before (c ∷ t) (rw (← e, ← span_cut (is_space Yes) m) h) in elim (cases_Bool (c == 35)) [
      | inr f ↦ goes_on c (t ++ n) here found (z.0 ∙ rw (e, f) refl) (z.1 ∙ rw (e, f) (and-false (is_empty before))) (sym (same_break c) ∙ not-true (classes.is_break c) (and_parts (not (classes.is_break c)) (has_no_break t) line).0) (rw f refl)
      | inl f ↦ elim (cases_Bool (is_empty before)) [
        | inl g ↦ glued t (grind (arith, eqb-true, span_cut)) (z.0 ∙ rw (e, f, g) refl) (grind (arith, none_further))
        | inr g ↦ ends found (z.0 ∙ rw (e, f, g) refl) (rw (f, z.2, g, line_skipped (c ∷ t) n here line k, place (c ∷ t) e) refl)
      ]
    ]
