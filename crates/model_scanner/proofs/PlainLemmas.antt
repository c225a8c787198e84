-- Lemmas about the scan of a plain scalar.
use Rattle.model_scanner.proofs.Common.{[], arith, at_dash, at_marker, at_plain, Bool, can_be_plain, Context, ends_gap, ends_run, ends_tabs, Err, false, Fault, first, Folded, goes_on, inside, is_blank, is_blank_or_breakz, is_break, is_flow, is_shallow, joined, List, nat_lt, nat_tests, nothing, Ok, past, Plain, plain, plain_from, Position, refl, slice_index, starts, stops, tabs, true, with_blank, with_break, with_char, ℕ, ◌+◌, ◌<◌, ◌||◌, ◌∷◌, ◌≡◌, ◌≢◌}
use Rattle.yaml_chars.specs.Words.{begins_word}
use Rattle.model_scanner.proofs.QuotedLemmas.{blank_no_break}
use Rattle.model_scanner.proofs.RunLemmas.{no_gap}
use Rattle.model_scanner.specs.Plain.{between}

-- at a comment and at a line's end blanks after a TAB are a gap
pub tabs_end : (ctx : Context) (start : Position) (a : List ℕ) (p : Position) (t : Folded) → ends_tabs a ≡ true
    → plain_from ctx start a (record { mode = tabs; position = p; folded = t }) ≡ plain_from ctx start a (record { mode = between; position = p; folded = t })
unfolding goes_on is_break is_blank
tabs_end ctx start [] p t h = refl
tabs_end ctx start (c ∷ a) p t h = grind (arith, nat_tests)

-- no dash that is followed by a flow character ends a run
goes_on_end : (ctx : Context) (c : ℕ) (a : List ℕ) (p : Position) → can_be_plain ctx.flow c (slice_index a 0) ≡ false → goes_on ctx (c ∷ a) p ≡ Ok false
unfolding goes_on at_dash at_plain can_be_plain is_flow
goes_on_end ctx c a p h = grind (arith, nat_tests)

-- where a run ends, a gap begins, which may be none
pub run_end : (ctx : Context) (start : Position) (a : List ℕ) (p : Position) (t : Folded) → ends_run ctx a ≡ true
    → plain_from ctx start a (record { mode = inside; position = p; folded = t }) ≡ plain_from ctx start a (record { mode = between; position = p; folded = t })
run_end ctx start [] p t h = refl
run_end ctx start (c ∷ a) p t h = grind (arith, goes_on_end ctx c a p)

-- at the end of the text nothing fails
no_fault : (ctx : Context) (p : Position) (f : Fault) → goes_on ctx [] p ≡ Err f → ⊥
unfolding goes_on at_dash
no_fault ctx p f h = grind (arith, nat_tests)

-- what comes where a scalar goes on, and where it doesn't
pub go_on : (ctx : Context) (start : Position) (a : List ℕ) (p : Position) (t : Folded) → ends_gap a ≡ true → goes_on ctx a p ≡ Ok true
    → plain_from ctx start a (record { mode = between; position = p; folded = t }) ≡ plain_from ctx start a (record { mode = first; position = p; folded = t })
go_on ctx start [] p t r h = refl
go_on ctx start (c ∷ a) p t r h = grind arith

pub stop_here : (ctx : Context) (start : Position) (a : List ℕ) (p : Position) (t : Folded) → ends_gap a ≡ true → goes_on ctx a p ≡ Ok false
    → plain_from ctx start a (record { mode = between; position = p; folded = t }) ≡ Ok (record { rest = a; position = p; value = record { text = t.text; leading = t.leading } })
stop_here ctx start [] p t r h = refl
stop_here ctx start (c ∷ a) p t r h = grind arith

pub fail_here : (ctx : Context) (start : Position) (a : List ℕ) (p : Position) (t : Folded) (f : Fault) → ends_gap a ≡ true → goes_on ctx a p ≡ Err f
    → plain_from ctx start a (record { mode = between; position = p; folded = t }) ≡ Err f
fail_here ctx start [] p t f r h = absurd (no_fault ctx p f h)
fail_here ctx start (c ∷ a) p t f r h = grind arith

pub tab_turn : (ctx : Context) (start : Position) (a b : List ℕ) (p : Position) (t : Folded) → a ≡ 9 ∷ b → t.leading ≡ true → p.col < ctx.indent
    → plain_from ctx start a (record { mode = between; position = p; folded = t }) ≡ plain_from ctx start b (record { mode = tabs; position = past p; folded = t })
unfolding is_break is_blank
tab_turn ctx start a b p t e l h = let less : nat_lt p.col ctx.indent ≡ true = grind (arith, nat_tests) in rw (e, l, less) refl

-- a scalar that may begin here
pub plain_starts : (ctx : Context) (a : List ℕ) (p q : Position) → starts ctx a p ≡ Ok tt → q ≡ p → plain ctx a q ≡ plain_from ctx p a (record { mode = first; position = p; folded = nothing })
unfolding plain
plain_starts ctx a p q h e = rw (e, h) refl

-- a character that ends a scalar where no gap stands
pub ends_here : (ctx : Context) (c d : ℕ) (a : List ℕ) (p : Position) → c ≢ 0 → c ≡ slice_index a 0 → d ≡ slice_index a 1 → is_blank_or_breakz c ≡ false → can_be_plain ctx.flow c d ≡ false
    → (ends_gap a ≡ true) × (goes_on ctx a p ≡ Ok false)
ends_here ctx c d [] p some e f gap plain = absurd (some e)
ends_here ctx c d (x ∷ a) p some e f gap plain =
    let g : (is_break x || is_blank x) ≡ false = no_gap x (rw e at gap) in
    let h : can_be_plain ctx.flow x (slice_index a 0) ≡ false = rw (e, f) at plain in
    (rw g refl, goes_on_end ctx x a p h)

-- after a break a scalar's line begins
pub break_leads : (t : Folded) → (with_break t).leading ≡ true
break_leads t = grind arith

-- a word's first character goes on a scalar after a gap
wordy_goes_on : (ctx : Context) (flow : Bool) (c : ℕ) (a : List ℕ) (p : Position)
    → begins_word (Plain flow) c ≡ true → is_shallow ctx (p.col + 1) ≡ false → goes_on ctx (c ∷ a) (past p) ≡ Ok true
unfolding begins_word stops is_break is_blank is_flow goes_on at_marker at_plain can_be_plain at_dash
wordy_goes_on ctx flow c a p w deep = grind (arith, nat_tests)

-- and it is one of a run
wordy_runs : (ctx : Context) (flow : Bool) (c d : ℕ) → begins_word (Plain flow) c ≡ true
    → ((is_break c || is_blank c) ≡ false) × (can_be_plain ctx.flow c d ≡ true)
unfolding begins_word stops is_break is_blank is_flow can_be_plain
wordy_runs ctx flow c d w = (grind (arith, nat_tests), grind (arith, nat_tests))

no_word : (flow : Bool) → begins_word (Plain flow) 0 ≡ true → ⊥
unfolding begins_word stops is_break is_blank is_flow
no_word flow h = cc

-- a blank that stands alone between two characters of a line belongs to the text as it stands
pub lone_blank : (ctx : Context) (start : Position) (flow : Bool) (c d : ℕ) (a b : List ℕ) (p : Position) (t : Folded)
    → a ≡ c ∷ b → d ≡ slice_index b 0 → is_blank c ≡ true → begins_word (Plain flow) d ≡ true → is_shallow ctx (p.col + 1) ≡ false → t.gap ≡ [] → t.leading ≡ false → t.escaped ≡ false
    → plain_from ctx start a (record { mode = inside; position = p; folded = t }) ≡ plain_from ctx start b (record { mode = inside; position = past p; folded = with_char c t })
lone_blank ctx start flow c d a [] p t e next blank w deep none leading escaped = absurd (no_word flow (rw next at w))
lone_blank ctx start flow c d a (x ∷ b) p t e next blank w deep none leading escaped =
    let word : begins_word (Plain flow) x ≡ true = rw next at w in
    let runs = wordy_runs ctx flow x (slice_index b 0) word in
    let same : joined (with_blank c t) ≡ with_char c t = rw (none, leading, escaped) refl in
    grind (arith, e, runs.0, runs.1, blank_no_break c blank, wordy_goes_on ctx flow x b p word deep, same)
