-- What the model's fetches do at a key or a value of a block mapping that is a simple text.
use Rattle.yaml_scanner.proofs.Common.{[], along, ap, arith, Bool, class_of, cleared, comes_marker, drop_open, drop_open_level, drop_stale, ends_open, false, fetch, fetch_content, fetch_first_column, fetch_here, fetch_indented, fetch_next, fetch_plain_scalar, fetch_token, fetch_value, Held, if◌then◌else◌, in_block, Indent, is_blank, is_blank_or_breakz, is_break, is_far, is_overdue, is_value, Key, le-ltb, length, level, List, list_any, map, moved, nat_le, nat_lt, nat_tests, ne_eqb, None, Ok, Option, Position, refl, roll_one_col_indent, ScannerState, skip, skip_to_next_token, Some, stale, still, sym, Token, top_needs_block_end, true, unroll_indent, ℕ, ◌&&◌, ◌+◌, ◌==◌, ◌||◌, ◌∷◌, ◌≡◌, ◌≤◌}
use Rattle.yaml_scanner.proofs.HeldLemmas.{unroll_shallow}
use Rattle.yaml_scanner.proofs.PairTexts.{Opener, along_is}

-- ---- what a fetch does beside its token

abbrev pub at : List ℕ → Held → ScannerState
at a s = record { rest = a; held = s }

-- What is held outside flow in a block mapping, at a position: the tokens, keys and levels, and whether a key may begin and a line begins.
abbrev pub in_mapping : Position → List Token → List (Option Key) → ℕ → List Indent → Bool → Bool → ℕ → Held
in_mapping p ts ks i ds allowed leading adjacent = record { position = p; tokens = ts; keys = ks; indents = ds; indent = i; flow = []; key_allowed = allowed; leading = leading; adjacent_value_at = adjacent; started = true; ended = false }

-- where nothing stands before the token, no key is too far back, and no level ends
pub fetched : (t : ScannerState) (a : List ℕ) (s : Held) (u : ScannerState) → t.held.started ≡ true → skip_to_next_token t ≡ Ok (at a s) → stale s ≡ Ok s → unroll_indent (s.position.col + 1) s ≡ s → fetch_here (at a s) ≡ Ok u → stale u.held ≡ Ok u.held
    → fetch t ≡ Ok u
unfolding fetch fetch_next
fetched t a s u started skips fresh stays here after = rw (skips, started, fresh, stays, here, after) refl

pub none_overdue : (p : Position) (ks : List (Option Key)) → cleared ks ≡ ks → (list_any (is_overdue p) ks ≡ false) × (map (still p) ks ≡ ks)
none_overdue p [] e = (refl, refl)
none_overdue p (None ∷ ks) e = let z = none_overdue p ks cc in (z.0, ap (λ ls. None ∷ ls) z.1)
none_overdue p (Some k ∷ ks) e = absurd cc

pub none_stale : (s : Held) → s.flow ≡ [] → cleared s.keys ≡ s.keys → stale s ≡ Ok s
unfolding stale drop_stale
none_stale s flow e = let z = none_overdue s.position s.keys e in rw (flow, z.0, z.1) refl

near_stay : (p : Position) (k : Key) (ks : List (Option Key)) → is_far k.position p ≡ false → cleared ks ≡ ks → drop_stale p (Some k ∷ ks) ≡ Ok (Some k ∷ ks)
unfolding drop_stale
near_stay p k ks near e = let z = none_overdue p ks e in rw (near, z.0, z.1) refl

pub near_stale : (s : Held) (k : Key) (ks : List (Option Key)) → s.flow ≡ [] → s.keys ≡ Some k ∷ ks → is_far k.position s.position ≡ false → cleared ks ≡ ks → stale s ≡ Ok s
unfolding stale
near_stale s k ks flow keys near e = let stay : drop_stale s.position s.keys ≡ Ok s.keys = rw keys (near_stay s.position k ks near e) in rw (flow, stay) refl

pub none_end : (s : Held) → s.flow ≡ [] → s.indent ≤ s.position.col + 1 → unroll_indent (s.position.col + 1) s ≡ s
none_end s flow low = sym (unroll_shallow (s.position.col + 1) s low)

pub solid_here : (c : ℕ) (a : List ℕ) (s : Held) → is_break c ≡ false → (c == 9) ≡ false → is_blank c ≡ false → (c == 35) ≡ false → skip_to_next_token (at (c ∷ a) s) ≡ Ok (at (c ∷ a) s)
unfolding skip_to_next_token skip
solid_here c a s break tab blank hash = rw (break, tab, blank, hash) refl

pub after_space : (c : ℕ) (a : List ℕ) (s : Held) → Opener c → skip_to_next_token (at (32 ∷ c ∷ a) s) ≡ Ok (at (c ∷ a) (moved s))
unfolding skip_to_next_token skip is_break is_blank
after_space c a s z = solid_here c a (moved s) z.break z.tab z.blank z.hash

indented_plain : (c : ℕ) (a : List ℕ) (s : Held) → Opener c → s.indent ≤ s.position.col + 1 → fetch_indented (at (c ∷ a) s) ≡ fetch_plain_scalar (at (c ∷ a) s)
unfolding fetch_indented fetch_token
indented_plain c a s z low = rw (le-ltb (s.position.col + 1) s.indent low, z.class) refl

pub plain_here : (c : ℕ) (a : List ℕ) (s : Held) → Opener c → s.indent ≤ s.position.col + 1 → fetch_here (at (c ∷ a) s) ≡ fetch_plain_scalar (at (c ∷ a) s)
unfolding fetch_here fetch_content fetch_first_column comes_marker
plain_here c a s z low = by (s.position.col == 0) refl
  where
    by : (b : Bool) → (s.position.col == 0) ≡ b → fetch_here (at (c ∷ a) s) ≡ fetch_plain_scalar (at (c ∷ a) s)
    by true e = rw (z.nul, e, z.percent, z.dash, z.point) (indented_plain c a s z low)
    by false e = rw (z.nul, e) (indented_plain c a s z low)

pub value_here : (d : ℕ) (a : List ℕ) (s : Held) → is_blank_or_breakz d ≡ true → 1 ≤ s.position.col → s.indent ≤ s.position.col + 1 → fetch_here (at (58 ∷ d ∷ a) s) ≡ fetch_value (at (58 ∷ d ∷ a) s)
unfolding fetch_here fetch_content fetch_indented fetch_token class_of is_value
value_here d a s blank off low = rw (ne_eqb s.position.col 0 (λ e. omega (arith, off, e)), le-ltb (s.position.col + 1) s.indent low, blank) refl

-- ---- levels

-- outside flow, where the innermost level is no open one
pub kept_level : (col : ℕ) (s : Held) → ends_open s.indents ≡ false → drop_open_level col s ≡ s
unfolding drop_open_level
kept_level col s block = by s.indents block
  where
    by : (ds : List Indent) → ends_open ds ≡ false → (if nat_le s.indent (col + 1) then drop_open s ds else s) ≡ s
    by [] h = grind arith
    by (d ∷ ds) h = grind arith

pub one_deeper : (s : Held) → s.flow ≡ [] → top_needs_block_end s.indents ≡ true → roll_one_col_indent s ≡ record s { indents = level s.indent false ∷ s.indents; indent = s.indent + 1 }
unfolding roll_one_col_indent in_block
one_deeper s flow block = rw (flow, block) refl

-- ---- what stands after a key or a value

pub follows_blank : (d : ℕ) → ((d == 32) || (d == 10)) ≡ true → (is_blank_or_breakz d ≡ true) × ((d == 9) ≡ false)
unfolding is_blank is_break
follows_blank d h = (grind (arith, nat_tests), grind (arith, nat_tests))

pub follows_visible : (e : ℕ) → (nat_lt 32 e && nat_lt e 127) ≡ true → (is_break e ≡ false) × (is_blank e ≡ false)
unfolding is_blank is_break
follows_visible e h = (grind (arith, nat_tests), grind (arith, nat_tests))

-- ---- a key

pub near_along : (w : List ℕ) (p : Position) → length w ≤ 1024 → is_far p (along w p) ≡ false
unfolding is_far
near_along w p h = rw (along_is w p, le-ltb p.line p.line (omega arith), le-ltb (p.index + 1024) (p.index + length w) (omega (arith, h))) refl
