-- What functions of the model make of what the scanner holds: the ends of levels, in flow nothing; a key that is saved or removed; a dash; and the position after indicators.
use Rattle.proof_scanner.proofs.Common.{[], allow_key, and_parts, ap, arith, check_dash, checked, eqb-true, false, Fault, has_no_nul, Held, Holds, if◌then◌else◌, in_line_position, is_before_line_feed, is_break, is_empty, is_required, Key, length, lexed, List, must_be_key, nat_tests, No, None, not, Ok, on_held, Option, past, Position, position_after, position_past, push, refl, remove_implicit_key, Result, roll_entry, roll_indent, save_implicit_key, ScannerState, skip_indicator, skip_spaces, Some, space, Tok, top_key, true, try_held, unroll_indent, unrolled, up_to_nul, went, with_levels, with_top, Yes, ℕ, ◌&&◌, ◌>>=◌, ◌∷◌, ◌≡◌}

pub unrolled_in_flow : (limit : ℕ) (s : Held) → is_empty s.flow ≡ false → unroll_indent limit s ≡ s
unfolding unroll_indent
unrolled_in_flow limit s e = rw e refl

pub unrolled_outside : (limit : ℕ) (s : Held) → is_empty s.flow ≡ true → unroll_indent limit s ≡ with_levels s (unrolled limit s.position s.indent s.indents s.tokens)
unfolding unroll_indent
unrolled_outside limit s e = rw e refl

-- ---- saved keys, in one step

-- what may be a key after a node's start
abbrev pub saved_keys : Held → List (Option Key)
saved_keys s = (if s.key_allowed then with_top (Some (record { required = must_be_key s; number = length s.tokens; position = s.position })) s.keys else s.keys)

pub saved_is : (s : Held) → save_implicit_key s ≡ record s { keys = saved_keys s }
unfolding save_implicit_key
saved_is s = grind (arith, nat_tests, eqb-true)

-- ---- a key that is removed, and what the model does after a dash

pub key_removed : (s : Held) → Holds (λ u. (u ≡ record s { keys = with_top None s.keys }) × (is_required (top_key s.keys) ≡ false)) (remove_implicit_key s)
unfolding remove_implicit_key
key_removed s = checked (is_required (top_key s.keys)) _ (λ n. went (refl, n))

-- what the model does after the dash
abbrev pub entry_from : ScannerState → ScannerState → Result ScannerState Fault
entry_from t u =
    let v = on_held (roll_indent t.held.position.col None Tok.block_sequence_start t.held.position) (skip_indicator u) in
    lexed (space Yes v.rest v.held.position) v.held check_dash >>= λ w.
    skip_spaces No w >>= λ x.
    try_held remove_implicit_key (roll_entry x) >>= λ y.
    Ok (on_held (λ s. push s.position Tok.block_entry (allow_key true s)) y)

-- ---- the text up to its end, the position after a document marker, and what the ends of levels leave as it was

-- the position after an indicator
pub past_indicator : (p : Position) (c : ℕ) (next : List ℕ) → is_break c ≡ false → position_past p c next ≡ past p
past_indicator p c next e = in_line_position c next p (ap (λ b. b && not (is_before_line_feed c next)) e)

pub three_past : (p : Position) (c : ℕ) (next : List ℕ) → is_break c ≡ false → past (past (past p)) ≡ position_after p (c ∷ c ∷ c ∷ []) next
three_past p c next e = grind (arith, nat_tests, eqb-true, past_indicator)

pub whole_text : (text : List ℕ) → has_no_nul text ≡ true → up_to_nul text ≡ text
whole_text [] h = refl
whole_text (c ∷ r) h = grind (arith, nat_tests, eqb-true, and_parts, whole_text r)

-- the ends of levels change neither the position nor whether the stream's start was met
pub unroll_keeps : (limit : ℕ) (h : Held) → ((unroll_indent limit h).position ≡ h.position) × ((unroll_indent limit h).started ≡ h.started)
unroll_keeps limit h = grind (arith, nat_tests, eqb-true, unrolled_in_flow, unrolled_outside)
