-- The block collections that end where a piece begins: the levels that go on are those of the row, and each end has its token.
use Rattle.proof_scanner.proofs.Common.{cases_Bool, inl, inr, end_level, [], if◌then◌else◌, ap, append-nil, append_assoc, AreLevels, arith, Arrives, before_by, before_past, begins_free_line, begins_separation, begins_token, block_end, blocks, Bool, chained, columns, ends_at, ends_here, false, Fault, free, has_open_level, Holds, Indent, is_adjacent, is_at_comment_or_end, is_deeper, is_empty, is_indented_by_spaces, IsLine, IsLineHere, IsNear, Key, length, Levels, Line, line_past_separation, List, not, not-false, not_ended, on_held, Option, outside_key, Position, put, refl, replicate, Result, ScannerState, site_here, skip_to_next_token, Some, stale, Stands, sym, taken, Token, tried, true, try_held, unroll_indent, unrolled, with_levels, ℕ, ◌&&◌, ◌++◌, ◌+◌, ◌-◌, ◌==◌, ◌>>=◌, ◌∙◌, ◌∷◌, ◌≡◌, ◌≤◌, both_hold, length-append, ArrivesAmong}
use Rattle.proof_scanner.proofs.Sound.Steps.{exact, shorter, stale_stands, unrolled_in_flow, unrolled_outside, all_close, deeper_is}
use Rattle.proof_scanner.proofs.Sound.ToToken.{passed_stands}
use Rattle.proof_row.proofs.Inserted.{before_again}

-- what goes on, of levels whose columns are these, and the tokens with the ends
pub record Ended (p : Position) (cols : List ℕ) (awaits : Bool) (ts : List Token) (u : Levels) : Type 0 where
  pub columns_are : not_ended p.col cols ≡ columns u.indent u.indents
  pub open_is : (awaits && is_deeper p.col cols) ≡ has_open_level u.indents
  pub are_levels : AreLevels u.indent u.indents
  pub tokens_are : u.tokens ≡ ts ++ ends_at p cols (not_ended p.col cols)

no_ends : (p : Position) (bs : List ℕ) (ts : List Token) → ts ≡ ts ++ ends_at p bs bs
no_ends p bs ts = let none : length bs - length bs ≡ 0 = omega arith in sym (ap (λ n. ts ++ replicate n (put p block_end)) none ∙ append-nil ts)

-- one end more
one_end : (p : Position) (n : ℕ) (cs : List ℕ) (ts us : List Token) → us ≡ (ts ++ put p block_end ∷ []) ++ ends_at p cs (not_ended p.col cs) → us ≡ ts ++ ends_at p (n ∷ cs) (not_ended p.col cs)
one_end p n cs ts us e = grind (arith, shorter, append_assoc)

-- Outside flow the levels that are deeper than a position end there.
pub levels_end : (p : Position) (i : ℕ) (ds : List Indent) (ts : List Token) → AreLevels i ds →
    Ended p (columns i ds) (has_open_level ds) ts (unrolled (p.col + 1) p i ds ts)
unfolding unrolled
levels_end p i [] ts a = record { columns_are = refl; open_is = refl; are_levels = a; tokens_are = no_ends p [] ts }
levels_end p i (d ∷ ds) ts a =
    grind (arith, all_close d.indent ds a.1, levels_end p d.indent ds (end_level d.needs_block_end p ts) (all_close d.indent ds a.1).0, no_ends, deeper_is, one_end p (i - 1) (columns d.indent ds) ts (unrolled (p.col + 1) p d.indent ds (end_level d.needs_block_end p ts)).tokens)

-- ---- from what holds between two fetches to what holds where the next piece begins, or at the text's end

-- the line at the piece
abbrev here_by : (fl broken : Bool) → Line → Line
here_by fl broken l = (if fl then taken else (if broken then free else l))

past_line : (fl broken allowed : Bool) (p : Position) (rest : List ℕ) (k : Option Key) (l : Line) → IsLine fl allowed broken p rest k l → line_past_separation fl broken l ≡ Some (here_by fl broken l)
past_line a b allowed p rest k l h = grind arith

line_here : (fl broken allowed : Bool) (p : Position) (rest : List ℕ) (k : Option Key) (l : Line) → (fl ≡ false → IsNear k p) → IsLine fl allowed broken p rest k l → IsLineHere fl allowed rest k (here_by fl broken l)
line_here a broken allowed p rest k l close h = grind arith

-- ---- the separation

solid_midst : (a : List ℕ) → begins_separation a ≡ false → is_empty a ≡ false → (is_at_comment_or_end a ≡ false) × (begins_token a ≡ true)
solid_midst b h d = grind arith

adjacent : (text : List ℕ) (v : ScannerState) (s : Stands text v) → begins_separation v.rest ≡ false → is_empty v.held.flow ≡ false → is_empty v.rest ≡ false → is_adjacent (before_past (before_by s.base.site.before) s.separation) ≡ (v.held.position.index == v.held.adjacent_value_at)
adjacent text v s solid fl some =
    let none : v.held.position.index + 0 ≡ v.held.position.index = omega arith in
    ap is_adjacent (sym (before_again (before_past (before_by s.base.site.before) s.separation))) ∙
    (s.was_adjacent fl [] v.rest refl refl (solid_midst v.rest solid some).1 ∙ ap (λ n. n == v.held.adjacent_value_at) none)

-- ---- the open key outside flow

-- outside flow there is one key or none, and it is near
abbrev pub HasNearKey : (v : ScannerState) → Type 0
HasNearKey v = is_empty v.held.flow ≡ true → (k : Option Key) × (v.held.keys ≡ k ∷ []) × IsNear k v.held.position

-- ---- all

-- the state with other levels and tokens
abbrev pub with_ends : ScannerState → Levels → ScannerState
with_ends v u = record v { held = with_levels v.held u }

arrives_with : (text : List ℕ) (v : ScannerState) (s : Stands text v) → begins_separation v.rest ≡ false → HasNearKey v → (u : Levels) →
    (site_here (not (is_empty v.held.flow)) v.held.position s.base.site).blocks ≡ columns u.indent u.indents →
    (site_here (not (is_empty v.held.flow)) v.held.position s.base.site).awaits ≡ has_open_level u.indents → AreLevels u.indent u.indents →
    u.tokens ≡ v.held.tokens ++ ends_here (not (is_empty v.held.flow)) v.held.position s.base.site.blocks → Arrives text (with_ends v u)
arrives_with text v s solid near u blocks awaits levels tokens = record {
  base = s.base;
  known =
      let k : Option Key = outside_key s.base.entries v.held.keys in
      let line = past_line (not (is_empty v.held.flow)) (begins_free_line s.base.site.before s.separation) v.held.key_allowed v.held.position v.rest k s.base.line s.line_is in
      let indented : is_empty v.rest ≡ false → is_indented_by_spaces s.base.site.before s.base.site.blocks s.base.site.awaits s.separation ≡ true = λ some. grind (arith, solid_midst) in
      let among : ArrivesAmong (with_ends v u) v.held.flow s.base.site s.base.line = search (line, s.is_filled, s, tokens, indented, adjacent text v s solid) in
      let near_now : is_empty v.held.flow ≡ true → IsNear k v.held.position = λ out. (grind arith) in
      let line_then = line_here (not (is_empty v.held.flow)) (begins_free_line s.base.site.before s.separation) v.held.key_allowed v.held.position v.rest k s.base.line (λ e. near_now (not-false (is_empty v.held.flow) e)) s.line_is in
      record { among = among; one_each = s.one_each; are_entries = s.are_entries; line_is = line_then; is_open = s.is_open; is_near = near_now; are_numbered = s.are_numbered; carries = s.carries; completes = s.completes };
  knows = s.knows;
}

-- Where the next piece begins the block collections that are deeper end.
pub arrives_now : (text : List ℕ) (v : ScannerState) → Stands text v → begins_separation v.rest ≡ false → HasNearKey v → Arrives text (on_held (λ s. unroll_indent (s.position.col + 1) s) v)
arrives_now text v s solid near = let p : Position = v.held.position in elim (cases_Bool (is_empty v.held.flow)) [
  | inr e ↦
      rw (unrolled_in_flow (p.col + 1) v.held e)
      (arrives_with text v s solid near (record { indent = v.held.indent; indents = v.held.indents; tokens = v.held.tokens }) (grind arith) (grind arith) s.are_levels (grind (arith, append-nil)))
  | inl e ↦
      let u : Levels = unrolled (p.col + 1) p v.held.indent v.held.indents v.held.tokens in
      let z : Ended p s.base.site.blocks s.base.site.awaits v.held.tokens u = rw (s.blocks_are, s.awaits_is) (levels_end p v.held.indent v.held.indents v.held.tokens s.are_levels) in
      rw (unrolled_outside (p.col + 1) v.held e)
      (arrives_with text v s solid near u (grind (arith, z)) (grind (arith, z)) z.are_levels (grind (arith, z)))
]

-- where a piece begins, after stale keys
pub stale_arrives : (text : List ℕ) (u : ScannerState) → Stands text u → begins_separation u.rest ≡ false →
    Holds (λ v. Arrives text (on_held (λ s. unroll_indent (s.position.col + 1) s) v) × (length v.rest ≡ length u.rest)) (try_held stale u)
stale_arrives text u s solid = tried u (stale u.held) (stale_stands text u s) (λ h n. (arrives_now text (record u { held = h }) n.stands solid (grind arith), refl))

-- From one fetch to where the next piece begins, or to the text's end: the way to the next token, stale keys, and the ends of block collections.
pub arrived : (text : List ℕ) (t : ScannerState) (f : ScannerState → Result ScannerState Fault) (P : ScannerState → Type 0) → Stands text t → ((v : ScannerState) → Arrives text v → length v.rest ≤ length t.rest → Holds P (f v)) →
    Holds P (skip_to_next_token t >>= λ u. try_held stale u >>= λ v. f (on_held (λ s. unroll_indent (s.position.col + 1) s) v))
arrived text t f P s go =
    chained (both_hold (passed_stands text t s) (exact t)) (λ u a.
    chained (stale_arrives text u a.0.0 a.0.1) (λ v b.
    let k = ap length a.1.cut in let n = length-append a.1.separation u.rest in
    go (on_held (λ s. unroll_indent (s.position.col + 1) s) v) b.0 (omega (arith, k, n, b.1))))
