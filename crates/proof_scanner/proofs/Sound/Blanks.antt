-- Blanks and a comment after a piece, within its line: what the model reads there is all of them, and it stands where they end.
use Rattle.std.proofs.lemmas.List.{append-nil}
use Rattle.proof_scanner.proofs.Common.{CommentNotSeparated, [], after, after_spaces, ap, append_assoc, arith, At, begins_with, blanks_and_comment, Bool, comment_of, eqb-true, Err, false, Fault, has_no_break, Holds, if◌then◌else◌, in_line_position, is_blank, is_break, is_line, is_on_line, is_one_of, is_separation, leading, lexed, List, No, not, Ok, or_false, or_true, pass_indicator, past, past_blanks_and_comment, past_comment, past_line_rest, Position, position_after, position_append, position_in_line, Read, refl, refused, Result, same_break, ScannerState, skip_indicator, skip_spaces, skip_while, space, space_step, span_cut, sym, true, walk, went, Whitespace, with_found, Yes, ℕ, ◌&&◌, ◌++◌, ◌==◌, ◌||◌, ◌∙◌, ◌∷◌, ◌≡◌, all_leading}
use Rattle.proof_scanner.proofs.Cut.Pieces.Separations.{no_break_append}
use Rattle.proof_scanner.proofs.Cut.Pieces.Names.{all_in_line}
use Rattle.model_scanner.specs.State.{after as after_first}
use Rattle.proof_scanner.proofs.Cut.Documents.{past_indicator}

-- ---- positions

-- within a line the position does not depend on the text after it
pub same_in_line : (p : Position) (l x y : List ℕ) → has_no_break l ≡ true → position_after p l x ≡ position_after p l y
same_in_line p l x y h = sym (position_in_line p l x h) ∙ position_in_line p l y h

-- ---- the blanks

pub no_break_in_blanks : (a : List ℕ) → has_no_break (leading is_blank a) ≡ true
unfolding is_blank is_break
no_break_in_blanks a = all_in_line is_blank (λ c h. grind arith) (leading is_blank a) (all_leading is_blank a)

blanks_walked : (a : List ℕ) (p : Position) (w : Whitespace) →
    walk (space_step Yes) a (record { position = p; found = w }) ≡ record { rest = after is_blank a; state = record { position = position_after p (leading is_blank a) []; found = record { found_tabs = w.found_tabs || is_one_of (leading is_blank a) 9; has_valid_yaml_ws = w.has_valid_yaml_ws || is_one_of (leading is_blank a) 32 } } }
unfolding is_blank is_break
blanks_walked [] p w = grind (arith, or_false)
blanks_walked (c ∷ a) p w = grind (arith, blanks_walked a)

-- ---- a comment

pub no_break_in_line : (a : List ℕ) → has_no_break (leading is_on_line a) ≡ true
no_break_in_line a = all_in_line is_on_line (λ c h. grind arith) (leading is_on_line a) (all_leading is_on_line a)

comment_passed : (a : List ℕ) (p : Position) → skip_while is_line a p ≡ record { rest = after is_on_line a; position = position_after p (leading is_on_line a) []; value = tt }
comment_passed [] p = refl
comment_passed (c ∷ a) p = grind (arith, same_break, in_line_position, comment_passed a (past p))

-- ---- both

pub line_rest_in_line : (a : List ℕ) → has_no_break (blanks_and_comment a) ≡ true
line_rest_in_line a = grind (arith, no_break_append, no_break_in_blanks, no_break_in_line)

-- blanks and a comment, and the text after them, are the text
pub line_rest_cut : (a : List ℕ) → a ≡ blanks_and_comment a ++ past_blanks_and_comment a
line_rest_cut a = span_cut is_blank a ∙ (ap (λ r. leading is_blank a ++ r) (comment_cut (after is_blank a)) ∙ sym (append_assoc (leading is_blank a) (comment_of (after is_blank a)) (past_comment (after is_blank a))))
  where
    comment_cut : (b : List ℕ) → b ≡ comment_of b ++ past_comment b
    comment_cut b = grind (arith, span_cut is_on_line)

comment_fills : (a : List ℕ) → is_separation true (leading is_on_line a) (after is_on_line a) ≡ true
comment_fills [] = refl
comment_fills (c ∷ a) = grind (arith, comment_fills a)

-- They are a separation.
pub line_rest_fills : (a : List ℕ) → is_separation false (blanks_and_comment a) (past_blanks_and_comment a) ≡ true
unfolding is_blank is_break
line_rest_fills [] = refl
line_rest_fills (c ∷ a) = grind (arith, comment_fills, line_rest_fills a)

-- whether a text begins with no blank and no comment
abbrev pub is_clear : List ℕ → Bool
is_clear [] = true
is_clear (c ∷ a) = not (is_blank c) && not (c == 35)

pub past_rest_is_clear : (a : List ℕ) → is_clear (past_blanks_and_comment a) ≡ true
unfolding is_blank is_break
past_rest_is_clear [] = refl
past_rest_is_clear (c ∷ a) = grind (arith, line_end, eqb-true, past_rest_is_clear a)
  where
    line_end : (b : List ℕ) → is_clear (after is_on_line b) ≡ true
    line_end [] = refl
    line_end (d ∷ b) = grind (arith, line_end b)

-- ---- what the model reads

-- which blanks stand there
abbrev pub found_in : List ℕ → Whitespace
found_in l = record { found_tabs = is_one_of l 9; has_valid_yaml_ws = is_one_of l 32 }

-- blanks and a comment are read to their end; or a comment stands after no blank
pub data IsSpaced (a : List ℕ) (p : Position) (x : Result (Read Whitespace) Fault) : Type 0 where
  parted : begins_with 35 a ≡ false → x ≡ Ok (record { rest = past_blanks_and_comment a; position = past_line_rest p a; value = found_in (leading is_blank a) }) → IsSpaced a p x
  glued : (f : Fault) → begins_with 35 a ≡ true → x ≡ Err f → IsSpaced a p x

-- where blanks stand, a text begins with no comment
blank_first : (a : List ℕ) → (is_one_of (leading is_blank a) 9 || is_one_of (leading is_blank a) 32) ≡ true → begins_with 35 a ≡ false
unfolding is_blank
blank_first b h = grind arith

-- where none stands, it begins after them
no_blank_first : (a : List ℕ) → (is_one_of (leading is_blank a) 9 || is_one_of (leading is_blank a) 32) ≡ false → after is_blank a ≡ a
unfolding is_blank
no_blank_first [] h = refl
no_blank_first (c ∷ a) h = grind (arith, or_true)

clear_first : (a : List ℕ) → begins_with 35 (after is_blank a) ≡ false → begins_with 35 a ≡ false
unfolding is_blank
clear_first b h = grind arith

pub spaced_exactly : (a : List ℕ) (p : Position) → IsSpaced a p (space Yes a p)
unfolding space
spaced_exactly a p = rw (blanks_walked a p (record { found_tabs = false; has_valid_yaml_ws = false })) (of (after is_blank a) refl)
  where
    l : List ℕ
    l = leading is_blank a

    q : Position
    q = position_after p l []

    at : List ℕ → Position → Result (Read Whitespace) Fault
    at r x = Ok (record { rest = r; position = x; value = found_in l })

    of : (b : List ℕ) → after is_blank a ≡ b → IsSpaced a p (after_spaces b (record { position = q; found = found_in l }))
    of [] e = parted (clear_first a (ap (begins_with 35) e)) (grind (arith, q, append-nil, l))
    of (c ∷ b) e = by (c == 35) (is_one_of l 9 || is_one_of l 32) refl refl
      where
        by : (x y : Bool) → (c == 35) ≡ x → (is_one_of l 9 || is_one_of l 32) ≡ y →
            IsSpaced a p (if x then (if y then Ok (with_found (found_in l) (skip_while is_line (c ∷ b) q)) else Err (At CommentNotSeparated q)) else at (c ∷ b) q)
        by false y f g = parted (clear_first a (ap (begins_with 35) e ∙ f)) (grind (arith, q, append-nil, l))
        by true false f g = glued (At CommentNotSeparated q) (ap (begins_with 35) (sym (no_blank_first a g) ∙ e) ∙ f) refl
        by true true f g = parted (blank_first a g) (ap (λ r. Ok (with_found (found_in l) r)) (comment_passed (c ∷ b) q) ∙ (ap (λ x. at (after is_on_line (c ∷ b)) x)
            (ap (λ x. position_after x (leading is_on_line (c ∷ b)) []) (same_in_line p l [] ((leading is_on_line (c ∷ b)) ++ []) (no_break_in_blanks a)) ∙ (sym (position_append p l (leading is_on_line (c ∷ b)) []) ∙ ap (λ x. position_after p (l ++ x) []) (sym (ap comment_of e ∙ rw f refl)))) ∙ ap (λ r. at r (past_line_rest p a)) (sym (ap past_comment e ∙ rw f refl))))

-- where no comment stands directly, they are read
pub spaced_parted : (a : List ℕ) (p : Position) → begins_with 35 a ≡ false → space Yes a p ≡ Ok (record { rest = past_blanks_and_comment a; position = past_line_rest p a; value = found_in (leading is_blank a) })
spaced_parted a p none = grind (arith, spaced_exactly)

-- the state after blanks and a comment
abbrev pub past_rest : ScannerState → ScannerState
past_rest t = record { rest = past_blanks_and_comment t.rest; held = record t.held { position = past_line_rest t.held.position t.rest } }

pub rest_read : (t : ScannerState) (go : Whitespace → ScannerState → Result ScannerState Fault) (P : ScannerState → Type 0) → (begins_with 35 t.rest ≡ false → Holds P (go (found_in (leading is_blank t.rest)) (past_rest t))) →
    Holds P (lexed (space Yes t.rest t.held.position) t.held go)
rest_read t go a f = grind (arith, spaced_exactly, parted, glued, refused)

-- TABs and spaces, and a comment, are skipped, and that is all of them.
pub rest_skipped : (t : ScannerState) → Holds (λ u. (u ≡ past_rest t) × (begins_with 35 t.rest ≡ false)) (skip_spaces Yes t)
unfolding skip_spaces
rest_skipped t = rest_read t (λ w u. Ok u) _ (λ h. went (refl, h))

-- after them no further spaces are skipped
pub none_skipped : (t : ScannerState) → is_clear t.rest ≡ true → skip_spaces No t ≡ Ok t
unfolding skip_spaces space is_blank
none_skipped t h = grind arith

-- ---- an indicator of one character, and the blanks and the comment after it

-- the scanner after an indicator, blanks and a comment
abbrev pub past_it : ScannerState → (more : List ℕ) → ScannerState
past_it u more = record { rest = past_blanks_and_comment more; held = record u.held { position = past_line_rest (past u.held.position) more; leading = false } }

-- All blanks and a comment after it are read; the comment does not stand directly there.
pub indicator_passed : (u : ScannerState) (more : List ℕ) → after_first u.rest ≡ more → Holds (λ v. (v ≡ past_it u more) × (begins_with 35 more ≡ false)) (pass_indicator u)
unfolding pass_indicator
indicator_passed u more e = rw (sym e) (rest_skipped (skip_indicator u))

-- the position after all of it
pub indicator_end : (p : Position) (c : ℕ) (more : List ℕ) → is_break c ≡ false → past_line_rest (past p) more ≡ position_after (position_after p (c ∷ []) more) (blanks_and_comment more) (past_blanks_and_comment more)
indicator_end p c more e = grind (arith, past_indicator, same_in_line, line_rest_in_line)
