-- A key or another scalar that was fetched at once, against the model's steps.
use Rattle.yaml_scanner.proofs.Common.{[], along, ends_open, ap, arith, AwaitsNode, Bool, Columns, Err, false, Fault, fetch, fetch_next, fetch_rest, Fetched, Fetcher, Fetches, Follows, Held, held, IfErr, IsShort, Key, List, must_be_key, ne_eqb, None, Ok, once, OnOk, Option, past, Position, position_of, Reads-saw, Reads-then, refl, Result, Runs, ScannerState, seen, Sees, skip_to_next_token, Some, stale, Stands, state, sym, TakesKey, TakesLine, top_needs_block_end, true, twice, unroll_indent, value_level, WindowView, with_key, with_line, ℕ, ◌&&◌, ◌+◌, ◌<◌, ◌==◌, ◌∙◌, ◌∷◌, ◌≡◌, ◌≤◌}
use Rattle.yaml_scanner.proofs.ReadsLemmas.{Reads-map, Reads-along}
use Rattle.yaml_scanner.proofs.FollowLemmas.{fetched_on, stopped}
use Rattle.yaml_scanner.proofs.PairTexts.{same_place, along_is}
use Rattle.yaml_scanner.proofs.HeldLemmas.{without_block, without_more}
use Rattle.yaml_scanner.proofs.LevelLemmas.{is_block}
use Rattle.yaml_scanner.proofs.PairFetches.{in_mapping}
use Rattle.yaml_scanner.proofs.PairFollows.{keys_seen, levels_split, fetched_twice}
use Rattle.yaml_scanner.proofs.NodeFetches.{key_runs, line_end, line_runs, rest_of}

-- ---- levels

-- where the innermost level opens a collection, or there is none
stands_in : (col limit : ℕ) (l : Columns) → ends_open l.indents ≡ false → l.indent ≤ col + 1 → (l.indent ≡ col + 1 → top_needs_block_end l.indents ≡ true)
    → (0 < limit → (limit ≤ l.indent) × (((l.indent == col + 1) && top_needs_block_end l.indents) ≡ false)) → Stands col l limit
stands_in col limit l block low there few = record { outer = l; rest = λ ts. without_block l.indent l.indents ts block; shallow = low; deep = low; block = block; there = there; low = few }

-- left of the column, a scalar may stand there
pub stands_deeper : (col : ℕ) (l : Columns) → top_needs_block_end l.indents ≡ true → l.indent < col + 1 → Stands col l l.indent
stands_deeper col l top left =
    stands_in col l.indent l (is_block l.indents top) (omega (arith, left)) (λ _. top) (λ _. (omega arith, rw (ne_eqb l.indent (col + 1) (λ e. omega (arith, left, e))) refl))

-- at the column, only a key
pub stands_there : (col : ℕ) (l : Columns) → top_needs_block_end l.indents ≡ true → l.indent ≤ col + 1 → Stands col l 0
stands_there col l top low = stands_in col 0 l (is_block l.indents top) low (λ _. top) (λ h. absurd (omega (arith, h)))

-- outside all collections
pub stands_outside : (col : ℕ) (l : Columns) → l.indents ≡ [] → l.indent < col + 1 → Stands col l 0
stands_outside col l none left = stands_in col 0 l (rw none refl) (omega (arith, left)) (λ e. absurd (omega (arith, left, e))) (λ h. absurd (omega (arith, h)))

-- inside a level that opens no collection
pub stands_open : (col limit : ℕ) (l : Columns) → value_level l.indents ≡ Some limit → l.indent ≤ col + 1 → limit < col + 1 → Stands col l limit
stands_open col limit l lone low left =
    let s = levels_split l.indents limit lone in
    record {
      outer = record { indent = limit; indents = s.0 };
      rest = λ ts. without_more l.indent limit l.indents s.0 ts s.1 ∙ without_block limit s.0 ts (is_block s.0 s.2);
      shallow = low;
      deep = omega (arith, left);
      block = is_block s.0 s.2;
      there = λ e. absurd (omega (arith, left, e));
      low = λ _. (omega arith, rw s.1 (grind arith));
    }

-- ---- a node

module _ {T : Type 0} (x y : Fetcher T) (w : WindowView T) (limit : ℕ) (z : AwaitsNode x limit) (started : x.started ≡ true) (going : x.tokens.ended ≡ false) (window : y.window ≡ w) where
  abbrev p : Position
  p = position_of x.window

  abbrev o : Columns
  o = z.stands.outer

  abbrev here : List (Option Key) → Held
  here ks = in_mapping p x.tokens.all (None ∷ ks) x.levels.indent x.levels.indents true x.leading x.adjacent_value_at

  is_here : (ks : List (Option Key)) → seen x.tokens.given x.keys ≡ None ∷ ks → held x ≡ here ks
  is_here ks keys = rw (z.flow, z.allowed, started, going, keys) refl

  pub key_does : {X E : Type 0} (v : X) (key : List ℕ) → TakesKey x.window w key → held y ≡ with_key p key (held (record x { window = w })) → Fetched {E = E} fetch_rest x (Ok v) y
  key_does v key t new =
      let k = keys_seen x.tokens.given x.keys z.no_open_key z.level in
      let old = is_here k.0 k.2 in
      let after_is : position_of w ≡ past (along key p) = same_place t.at t.line t.col ∙ sym (ap past (along_is key p)) in
      let now : held y ≡ with_key p key (record (here k.0) { position = past (along key p) }) = new ∙ ap (λ q. with_key p key (record (held x) { position = q })) after_is ∙ ap (λ h. with_key p key (record h { position = past (along key p) })) old in
      twice tt (Reads-along _ _ _ _ refl window (Reads-map _ _ t.reads (λ a b r.
      rw (now, old, r.0) (key_runs p x.tokens.all k.0 x.levels.indent x.levels.indents o.indent o.indents x.leading x.adjacent_value_at k.1 z.stands.shallow z.stands.rest z.stands.deep z.stands.block z.stands.there key b t.simple t.short r.1))))

  pub line_does : {X E : Type 0} (v : X) (text : List ℕ) → TakesLine [] limit x.window w text → held y ≡ with_line p text (held (record x { window = w })) → Fetched {E = E} fetch_rest x (Ok v) y
  unfolding must_be_key
  line_does v text t new =
      let k = keys_seen x.tokens.given x.keys z.no_open_key z.level in
      let old = is_here k.0 k.2 in
      let low = t.low in
      let fits = z.stands.low (omega (arith, low)) in
      let few = fits.0 in
      let moved = t.at in
      let after_is : position_of w ≡ line_end p text t.spaces = same_place (omega (arith, moved)) t.line t.col in
      let now : held y ≡ with_line p text (record (here k.0) { position = line_end p text t.spaces }) = new ∙ rw (after_is, z.flow, z.allowed, started, going, k.2) refl in
      once (Reads-along _ _ _ _ refl window (Reads-map _ _ t.reads (λ a b r.
      rw (now, old, r.0) (line_runs p x.tokens.all k.0 x.levels.indent x.levels.indents o.indent o.indents x.leading x.adjacent_value_at k.1 z.stands.shallow z.stands.rest z.stands.deep z.stands.block z.stands.there text t.spaces b t.simple r.1 (omega (arith, low, few)) fits.1))))

-- ---- a fetch

-- after what stands before a token
pub fetched_rest : {T X Y Z C D E : Type 0} {up down : ℕ} (x y1 v x2 y : Fetcher T) (n : ℕ) (u : Y) (c : Z) (r : X) → x2.window ≡ y1.window → Runs {E = C} skip_to_next_token x (Ok u) y1 up down → stale (held y1) ≡ Ok (held v) → n ≡ (held v).position.col + 1 → held x2 ≡ unroll_indent n (held v)
    → Fetched {E = D} fetch_rest x2 (Ok c) y → Fetched {E = E} fetch_next x (Ok r) y
fetched_rest x y1 v x2 y n u c r w skip fresh col ends (once d) = once (Reads-then _ _ _ skip.comes (Reads-along _ _ _ _ (sym w) refl d) (λ a b d p q. rest_of a b d (held x) (held y1) (held v) (held x2) (held y) n p fresh col ends q))
fetched_rest x y1 v x2 y n u c r w skip fresh col ends (twice i d) =
    twice tt (Reads-then _ _ _ skip.comes (Reads-along _ _ _ _ (sym w) refl d) (λ a b d p q.
    record { between = q.between; first = rest_of a b q.between.rest (held x) (held y1) (held v) (held x2) q.between.held n p fresh col ends q.first; going = q.going; second = q.second }))

-- one step is here what another is
pub fetched_as : {T X E : Type 0} (f h : ScannerState → Result ScannerState Fault) (x y : Fetcher T) (r : Result X E) → Sees x.window (λ a. h (state a x) ≡ f (state a x)) → Fetched f x r y → Fetched h x r y
fetched_as f h x y r same (once d) = once (Reads-saw _ _ same d (λ a b p q. rw p q))
fetched_as f h x y r same (twice i d) = twice i (Reads-saw _ _ same d (λ a b p q. record { between = q.between; first = p ∙ q.first; going = q.going; second = q.second }))

-- One fetch more, or two; or a fetch that is refused is one of the model's, and its fault may be kept.
pub fetched_some : {T X E : Type 0} (x y : Fetcher T) (r : Result X E) → x.kept ≡ None → x.tokens.ended ≡ false → Follows x → Fetched fetch x r y → Fetches x y → OnOk r (y.tokens.ended ≡ true → y.window.done ≡ true)
    → OnOk r (Follows y) × IfErr r (λ _. (mark : Position) (early : Bool) → (early ≡ false → IsShort x) → Follows (record y { kept = Some mark; early = early }))
fetched_some x y (Ok v) k g f (once d) m n = (fetched_on x y k g f d m n, tt)
fetched_some x y (Ok v) k g f (twice i d) m n = (fetched_twice x y k g f d m n, tt)
fetched_some x y (Err e) k g f (once d) m n = (tt, λ mark early short. stopped x y mark early k g short f d m)
fetched_some x y (Err e) k g f (twice i d) m n = absurd i
