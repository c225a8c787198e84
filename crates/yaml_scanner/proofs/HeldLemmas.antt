-- Lemmas about what the scanner holds.
use Rattle.yaml_scanner.proofs.Common.{[], arith, le-ltb, lt-ltb, At, Bool, Columns, drop_stale, end_level, ends_open, Err, false, Fault, Held, in_flow, Indent, is_required, Key, level, Levels, List, MatchOption, None, Ok, Option, Position, refl, Result, remove_implicit_key, Some, stale, Token, top_key, true, unroll_indent, unroll_non_block_indents, unrolled, with_levels, with_top, without_open, ℕ, ◌<◌, ◌∷◌, ◌≡◌, ◌≤◌}
use Rattle.model_scanner.specs.Keys.{with_keys}
use Rattle.yaml_tokens.specs.declared.problem.Problem.TheVariants as problem

pub removed : (h : Held) (ks : List (Option Key)) (b : Bool) → b ≡ is_required (top_key h.keys) → b ≡ false → ks ≡ with_top None h.keys → remove_implicit_key h ≡ Ok (record h { keys = ks })
unfolding remove_implicit_key
removed h ks b e f k = rw (← e, f, k) refl

pub not_removed : (h : Held) (b : Bool) (p : Position) → b ≡ is_required (top_key h.keys) → b ≡ true → p ≡ h.position → remove_implicit_key h ≡ Err (At problem.KeyExpected p)
unfolding remove_implicit_key
not_removed h b p e f k = rw (← e, f, k) refl

pub stale_in_flow : (h : Held) (b : Bool) → b ≡ in_flow h → b ≡ true → stale h ≡ Ok h
unfolding stale
stale_in_flow h b e f = rw (← e, f) refl

pub stale_dropped : (h : Held) (r : Result (List (Option Key)) Fault) (b : Bool) (p : Position) → b ≡ in_flow h → b ≡ false → p ≡ h.position → drop_stale p h.keys ≡ r → stale h ≡ with_keys h r
unfolding stale
stale_dropped h r b p e f k d = let d' = rw k at d in rw (← e, f, d') refl

-- what is popped off an innermost level that opens no collection
pub open_popped : (old new : Columns) (r : Option Bool) → ends_open old.indents ≡ true → MatchOption r ((old.indents ≡ []) × (new ≡ old)) (λ ends. old.indents ≡ level new.indent ends ∷ new.indents) → old.indents ≡ level new.indent false ∷ new.indents
open_popped old new None o m = absurd (let f = rw m.0 at o in cc)
open_popped old new (Some true) o m = absurd (let f = rw m at o in cc)
open_popped old new (Some false) o m = m

pub unrolled_done : (limit : ℕ) (p : Position) (i : ℕ) (ds : List Indent) (ts : List Token) → i ≤ limit → unrolled limit p i ds ts ≡ record { indent = i; indents = ds; tokens = ts }
unfolding unrolled
unrolled_done limit p i [] ts h = refl
unrolled_done limit p i (d ∷ ds) ts h = rw (le-ltb limit i h) refl

pub unrolled_none : (limit : ℕ) (p : Position) (i : ℕ) (ds : List Indent) (ts : List Token) → ds ≡ [] → unrolled limit p i ds ts ≡ record { indent = i; indents = ds; tokens = ts }
unfolding unrolled
unrolled_none limit p i ds ts h = rw h refl

pub unrolled_more : (limit : ℕ) (p : Position) (i : ℕ) (ds : List Indent) (ts : List Token) (d : Indent) (es : List Indent) → ds ≡ d ∷ es → limit < i
    → unrolled limit p i ds ts ≡ unrolled limit p d.indent es (end_level d.needs_block_end p ts)
unfolding unrolled
unrolled_more limit p i ds ts d es e h = rw (e, lt-ltb limit i h) refl

pub unroll_in_flow : (limit : ℕ) (h : Held) (b : Bool) → b ≡ in_flow h → b ≡ true → h ≡ unroll_indent limit h
unfolding unroll_indent
unroll_in_flow limit h b e f = rw (← e, f) refl

pub unroll_done : (limit : ℕ) (h u : Held) (l : Levels) → in_flow h ≡ false → unrolled limit h.position h.indent h.indents h.tokens ≡ l → u ≡ with_levels h l → u ≡ unroll_indent limit h
unfolding unroll_indent
unroll_done limit h u l g e f = rw (g, e) f

pub unroll_shallow : (limit : ℕ) (h : Held) → h.indent ≤ limit → h ≡ unroll_indent limit h
unfolding unroll_indent
unroll_shallow limit h e = let done = unrolled_done limit h.position h.indent h.indents h.tokens e in grind (arith, done)

pub without_block : (i : ℕ) (ds : List Indent) (ts : List Token) → ends_open ds ≡ false → without_open i ds ts ≡ record { indent = i; indents = ds; tokens = ts }
unfolding without_open
without_block i [] ts o = refl
without_block i (d ∷ ds) ts o = grind arith

pub without_more : (i j : ℕ) (ds es : List Indent) (ts : List Token) → ds ≡ level j false ∷ es → without_open i ds ts ≡ without_open j es ts
unfolding without_open
without_more i j ds es ts e = rw e refl

pub without_done : (h u : Held) (l : Levels) → without_open h.indent h.indents h.tokens ≡ l → u ≡ with_levels h l → u ≡ unroll_non_block_indents h
unfolding unroll_non_block_indents
without_done h u l e f = rw e f
