-- What the model reads after a colon: where a TAB stands next, the blanks and a comment; else nothing.
use Rattle.proof_scanner.proofs.Common.{cases_Bool, inl, inr, arith, Held, Holds, List, ScannerState, [], after, begins_with, begins_with_alpha, blanks_and_comment, check_after_tab, check_value_space, checked, colon_may_precede, eqb-true, false, has_no_break, if◌then◌else◌, is_blank, is_separation, or_parts, pair_position, past_blanks_and_comment, past_comment, peek, refl, same_alpha, tab, true, went, ℕ, ◌++◌, ◌==◌, ◌||◌, ◌∙◌, ◌≡◌}
use Rattle.yaml_chars.specs.Class.{is_alpha}
use Rattle.defs_text.specs.Classes as classes
use Rattle.proof_scanner.proofs.Sound.Steps.{line_rest_cut, line_rest_fills, line_rest_in_line, past_rest, rest_read, begins_here}

-- what is read after a colon, and the text after that
abbrev pub colon_gap : List ℕ → List ℕ
colon_gap more = (if begins_with tab more then blanks_and_comment more else [])

abbrev pub past_gap : List ℕ → List ℕ
past_gap more = (if begins_with tab more then past_blanks_and_comment more else more)

-- it is a separation on the colon's line
pub gap_is : (more : List ℕ) → (more ≡ colon_gap more ++ past_gap more) × (is_separation false (colon_gap more) (past_gap more) ≡ true) × (has_no_break (colon_gap more) ≡ true)
gap_is more = grind (arith, line_rest_cut, line_rest_fills, line_rest_in_line)

-- ---- what the model checks

-- a letter after the blanks stands after the comment too, since there is none
no_letter : (b : List ℕ) → ((peek (past_comment b) == 45) || is_alpha (peek (past_comment b))) ≡ false → begins_with_alpha b ≡ false
unfolding classes.is_alpha classes.is_decimal_digit classes.is_letter
no_letter a h = grind (arith, eqb-true, same_alpha, or_parts)

-- the state after a colon and what is read after it
abbrev pub past_colon : (more : List ℕ) → Held → ScannerState
past_colon more h = record { rest = past_gap more; held = record h { position = pair_position h.position more } }

pub colon_spaced : (more : List ℕ) (h : Held) → Holds (λ u. (u ≡ past_colon more h) × (colon_may_precede more ≡ true)) (check_value_space (record { rest = more; held = h }))
unfolding check_value_space check_after_tab
colon_spaced more h = let t : ScannerState = record { rest = more; held = h } in elim (cases_Bool (begins_with tab more)) [
  | inl e ↦ rw (begins_here 9 more refl ∙ e) (rest_read t check_after_tab _ (λ _. checked _ _ (λ f. went {x = past_rest t} (grind (arith, no_letter (after is_blank more))))))
  | inr e ↦ rw (begins_here 9 more refl ∙ e) (went {x = t} (grind arith))
]
