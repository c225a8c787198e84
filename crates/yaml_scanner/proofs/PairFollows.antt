-- Two tokens that are handed out at once, against the model's runs.
use Rattle.yaml_scanner.proofs.Common.{[], unrolled, along, ap, append_assoc, arith, AwaitsKey, AwaitsValue, Bool, cleared, Columns, ErrorReport, false, Fault, Fetcher, Fetches, FetchesTwice, Follows, handed, has_end, HandsBoth, held, ImplicitKey, Indent, inside, is_end, Key, key_tokens, length, length-append, level, levels_after, List, map, no_implicit, None, one_more, Option, option_map, OutOfMemory, past, Position, position_of, Reads, refl, Scanned, seen, Some, StandsAt, state, Style, suc, sym, take, take-append-add, take-append_seam, take-length, TakesKey, TakesValue, Tok, Token, token, top_needs_block_end, true, value_level, WindowView, work, ℕ, ◌++◌, ◌+◌, ◌-◌, ◌<◌, ◌∙◌, ◌∷◌, ◌≡◌, ◌≤◌}
use Rattle.yaml_tokens.specs.Problem.{fault_of}
use Rattle.yaml_scanner.proofs.ReadsLemmas.{Reads-map}
use Rattle.yaml_scanner.proofs.FollowLemmas.{fetched_on, given_on, went_on}
use Rattle.std.proofs.lemmas.Simd.{map-map}
use Rattle.yaml_scanner.proofs.KeyLemmas.{cleared_all}
use Rattle.yaml_scanner.proofs.QueueLemmas.{has_end_append}
use Rattle.yaml_scanner.proofs.HeldLemmas.{unrolled_done, unrolled_more}
use Rattle.yaml_scanner.proofs.PairTexts.{same_place, along_is}
use Rattle.yaml_scanner.proofs.PairFetches.{in_mapping}
use Rattle.yaml_scanner.proofs.NodeFetches.{after_key, after_value, key_fetched, line_end, value_fetched}

-- two fetches more
pub fetched_twice : {T : Type 0} (x y : Fetcher T) → x.kept ≡ None → x.tokens.ended ≡ false → Follows x → Reads x.window y.window (λ a b. FetchesTwice (state a x) (state b y)) → Fetches x y → (y.tokens.ended ≡ true → y.window.done ≡ true) → Follows y
fetched_twice x y k g f d m n = λ a p.
    let old = f a (d.back a p) in
    let z = d.reads a p in
    went_on x y k m n a old (one_more (one_more (old.run k g) g z.first) z.going z.second)

-- memory was refused, as callers see it
pub memory_kept : (e : Fault) (m : Position) (r : ErrorReport) → r ≡ fault_of e m → e ≡ OutOfMemory → r.memory ≡ true
memory_kept e m r h f = rw (h, f) refl

-- ---- what is held

pub seen_free : (g : ℕ) (ks : List (Option ImplicitKey)) → map no_implicit ks ≡ ks → cleared (seen g ks) ≡ seen g ks
seen_free g ks e = sym (cleared_all g ks) ∙ ap (seen g) e

seen_alike : (g h : ℕ) (ks : List (Option ImplicitKey)) → map no_implicit ks ≡ ks → seen g ks ≡ seen h ks
seen_alike g h ks e = sym (seen_free g ks e) ∙ simp map-map refl ∙ seen_free h ks e

-- the innermost level has no key, and the levels outside it have none
pub keys_seen : (g : ℕ) (ks : List (Option ImplicitKey)) → map no_implicit ks ≡ ks → 0 < length ks → (js : List (Option Key)) × (cleared js ≡ js) × (seen g ks ≡ None ∷ js)
keys_seen g [] e h = absurd (omega (arith, h))
keys_seen g (None ∷ ks) e h = (seen g ks, seen_free g ks cc, refl)
keys_seen g (Some k ∷ ks) e h = absurd cc

-- ---- tokens

-- two tokens are handed out, none of which is the end, where nothing may be a key
both_handed : {T : Type 0} (x : Fetcher T) (gs us : List Token) (t u : Token) → x.kept ≡ None → x.tokens.over ≡ false → map no_implicit x.keys ≡ x.keys → x.tokens.all ≡ gs ++ t ∷ u ∷ us → x.tokens.given ≡ length gs → is_end t.tok ≡ false → is_end u.tok ≡ false → Follows x
    → Follows (record x { tokens = record x.tokens { given = x.tokens.given + 2 } })
both_handed x gs us t u k o free all given te ue f = λ a p.
    let old = f a p in
    let first : take (x.tokens.given + 2) x.tokens.all ≡ gs ++ t ∷ u ∷ [] = rw (all, given) (take-append-add gs (t ∷ u ∷ us) 2) in
    let before : handed x.tokens ≡ gs = rw (all, given) (take-append_seam gs (t ∷ u ∷ us)) in
    let none : has_end gs ≡ false = rw before at (old.open_end o) in
    given_on x a old k (x.tokens.given + 2) x.keys x.tokens.over (λ _. seen_alike (x.tokens.given + 2) x.tokens.given x.keys free) (λ e. absurd cc) (λ _. rw (first, has_end_append gs (t ∷ u ∷ []), none, te, ue) refl)

-- two tokens more, as callers see it
hands_both : {T : Type 0} (x y : Fetcher T) (gs us : List Token) (t u : Token) → x.kept ≡ None → x.tokens.over ≡ false → y.kept ≡ x.kept → y.tokens.over ≡ x.tokens.over → handed x.tokens ≡ gs → y.tokens.all ≡ gs ++ t ∷ u ∷ us → y.tokens.given ≡ length gs + 2
    → is_end t.tok ≡ false → is_end u.tok ≡ false → work y + 1 < work x → HandsBoth (inside x) t u (inside y)
hands_both x y gs us t u k o kept over given all count te ue less =
    let fault : option_map (fault_of x.fault) x.kept ≡ None = ap (option_map (fault_of x.fault)) k in
    let middle : Scanned = record (inside x) { given = handed x.tokens ++ t ∷ []; left = work y + 1 } in
    record {
      between = middle;
      first = record { going = (o, fault); given = refl; fault = fault; ended = o ∙ sym te; left = less };
      second = record {
        going = (o, fault);
        given = rw (all, count, given) (take-append-add gs (t ∷ u ∷ us) 2 ∙ sym (append_assoc gs (t ∷ []) (u ∷ [])));
        fault = ap (option_map (fault_of y.fault)) (kept ∙ k);
        ended = over ∙ o ∙ sym ue;
        left = omega arith;
      };
    }

-- ---- levels

pub levels_split : (ds : List Indent) (limit : ℕ) → value_level ds ≡ Some limit → (es : List Indent) × (ds ≡ level limit false ∷ es) × (top_needs_block_end es ≡ true)
levels_split [] limit e = absurd cc
levels_split (d ∷ []) limit e = absurd cc
levels_split (d ∷ g ∷ ds) limit e = (g ∷ ds, grind arith, grind arith)

abbrev columns : ℕ → List Indent → Columns
columns i ds = record { indent = i; indents = ds }

-- Where a key stands at a column, the levels that stay there, and those after its `:`.
record Outside (col : ℕ) (opens : Bool) (l : Columns) : Type 0 where
  ds : List Indent
  block : top_needs_block_end ds ≡ true
  ends : (p : Position) (ts : List Token) → unrolled (col + 1) p l.indent l.indents ts ≡ record { indent = col + 1; indents = ds; tokens = ts }
  after : levels_after opens l ≡ columns (col + 1 + 1) (level (col + 1) false ∷ ds)

outside_of : (col : ℕ) (opens : Bool) (l : Columns) → StandsAt col opens l → Outside col opens l
outside_of col true l z = record {
  ds = l.indents;
  block = z.1;
  ends = λ p ts. rw z.0 (unrolled_done (col + 1) p (col + 1) l.indents ts (omega arith));
  after = rw z.0 refl;
}
outside_of col false l z =
    let s = levels_split l.indents (col + 1) z.1 in
    let width : l.indent ≡ col + 1 + 1 = z.0 ∙ omega arith in
    record {
      ds = s.0;
      block = s.2;
      ends = λ p ts. unrolled_more (col + 1) p l.indent l.indents ts (level (col + 1) false) s.0 s.1 (omega (arith, width)) ∙ unrolled_done (col + 1) p (col + 1) s.0 ts (omega arith);
      after = ap (λ i. columns i l.indents) width ∙ ap (columns (col + 1 + 1)) s.1;
    }

levels_more : (opens : Bool) (l : Columns) → length (levels_after opens l).indents ≤ length l.indents + 1
levels_more true l = omega arith
levels_more false l = omega arith

-- ---- a key

module _ {T : Type 0} (x : Fetcher T) (w : WindowView T) (key : List ℕ) (colon : Position) (opens : Bool) (z : AwaitsKey x opens) (t : TakesKey x.window w key) (at : colon ≡ record { index = w.at - 1; line = w.line; col = w.col - 1 }) where
  abbrev p : Position
  p = position_of x.window

  -- after the fetches, and once both were handed out
  abbrev key_fetcher : ℕ → Fetcher T
  key_fetcher n = record x {
    window = w;
    tokens = record x.tokens { all = x.tokens.all ++ key_tokens p key colon; given = n };
    levels = levels_after opens x.levels;
    key_allowed = false;
    leading = false;
  }

  key_fetches : Follows x → Follows (key_fetcher x.tokens.given)
  key_fetches f =
      let s = z.settled in
      let k = keys_seen x.tokens.given x.keys s.no_open_key s.level in
      let keys = k.2 in
      let index = t.at in
      let col = t.col in
      let colon_is : colon ≡ along key p = at ∙ same_place (omega (arith, index)) t.line (omega (arith, col)) ∙ sym (along_is key p) in
      let after_is : position_of w ≡ past (along key p) = same_place index t.line col ∙ sym (ap past (along_is key p)) in
      let y = key_fetcher x.tokens.given in
      let o = outside_of p.col opens x.levels z.stands in
      let old : held x ≡ in_mapping p x.tokens.all (None ∷ k.0) x.levels.indent x.levels.indents true x.leading x.adjacent_value_at = rw (s.flow, s.started, s.ended, z.allowed, keys) refl in
      let new : held y ≡ after_key p x.tokens.all k.0 o.ds x.leading x.adjacent_value_at k.1 o.block key = rw (s.flow, s.started, s.ended, o.after, keys, colon_is, after_is) refl in
      fetched_twice x y s.kept s.ended f
      (Reads-map _ _ t.reads (λ a b r. rw (old, new, r.0) (key_fetched p x.tokens.all k.0 o.ds x.leading x.adjacent_value_at k.1 o.block x.levels.indent x.levels.indents (o.ends p x.tokens.all) key b t.simple t.short r.1)))
      (record { given = rw z.waits (take-append_seam x.tokens.all (key_tokens p key colon) ∙ sym (take-length x.tokens.all)); over = refl; fault = refl; backlog = refl })
      (λ e. absurd (cc (e, s.ended)))

  pub key_follows : Follows x → Follows (key_fetcher (x.tokens.given + 2))
  key_follows f =
      let s = z.settled in
      both_handed (key_fetcher x.tokens.given) x.tokens.all (token colon Tok.value ∷ []) (token p Tok.key) (token p (Tok.scalar Style.plain key)) s.kept s.over s.no_open_key refl z.waits refl refl (key_fetches f)

  pub key_handed : HandsBoth (inside x) (token p Tok.key) (token p (Tok.scalar Style.plain key)) (inside (key_fetcher (x.tokens.given + 2)))
  key_handed =
      let s = z.settled in
      let waits = z.waits in
      let left = t.reads.left in
      let moved = t.at in
      let some = t.simple.some in
      let more = length-append x.tokens.all (key_tokens p key colon) in
      let deeper = levels_more opens x.levels in
      hands_both x (key_fetcher (x.tokens.given + 2)) x.tokens.all (token colon Tok.value ∷ []) (token p Tok.key) (token p (Tok.scalar Style.plain key)) s.kept s.over refl refl (rw waits (take-length x.tokens.all)) refl (rw waits refl) refl refl
      (omega (arith, waits, left, moved, some, more, deeper))

-- ---- a value

popped_is : (i : ℕ) (es : List Indent) (limit : ℕ) → value_level (level i false ∷ es) ≡ Some limit → (i ≡ limit) × (top_needs_block_end es ≡ true)
popped_is i [] limit e = absurd cc
popped_is i (d ∷ es) limit e = (grind arith, grind arith)

module _ {T : Type 0} (x : Fetcher T) (w : WindowView T) (value : List ℕ) (at : Position) (limit : ℕ) (mark : Position) (l : Columns) (z : AwaitsValue x at limit) (t : TakesValue limit x.window w value) (is : mark ≡ past (position_of x.window)) (popped : x.levels.indents ≡ level l.indent false ∷ l.indents) where
  abbrev q : Position
  q = position_of x.window

  abbrev scalar : Token
  scalar = token mark (Tok.scalar Style.plain value)

  -- after the fetch, and once both were handed out
  abbrev value_fetcher : ℕ → Fetcher T
  value_fetcher n = record x {
    window = w;
    tokens = record x.tokens { all = x.tokens.all ++ scalar ∷ []; given = n };
    levels = l;
    key_allowed = true;
    leading = true;
  }

  gone : x.tokens.given ≡ length (handed x.tokens)
  gone =
      let sum = length-append (handed x.tokens) (token at Tok.value ∷ []) in
      let all = ap length z.waits in
      let count = z.count in
      omega (arith, sum, all, count)

  tokens_are : x.tokens.all ++ scalar ∷ [] ≡ handed x.tokens ++ token at Tok.value ∷ scalar ∷ []
  tokens_are = ap (λ ts. ts ++ scalar ∷ []) z.waits ∙ append_assoc (handed x.tokens) (token at Tok.value ∷ []) (scalar ∷ [])

  value_fetches : Follows x → Follows (value_fetcher x.tokens.given)
  value_fetches f =
      let s = z.settled in
      let ks = seen x.tokens.given x.keys in
      let free = seen_free x.tokens.given x.keys s.no_open_key in
      let split = popped_is l.indent l.indents limit (rw popped at z.opened) in
      let y = value_fetcher x.tokens.given in
      let index = t.at in
      let value_after : position_of w ≡ line_end (past q) value t.spaces = same_place (omega (arith, index)) t.line t.col in
      let indents : x.levels.indents ≡ level limit false ∷ l.indents = popped ∙ ap (λ i. level i false ∷ l.indents) split.0 in
      let before = in_mapping q x.tokens.all ks x.levels.indent (level limit false ∷ l.indents) false x.leading x.adjacent_value_at in
      let after = after_value q x.tokens.all ks x.levels.indent limit l.indents x.leading x.adjacent_value_at free split.1 z.deep z.off value t.spaces in
      let old : held x ≡ before = rw (s.flow, s.started, s.ended, z.allowed, indents) refl in
      let new : held y ≡ after = rw (s.flow, s.started, s.ended, is, value_after, split.0) refl in
      let same : handed y.tokens ≡ handed x.tokens = ap (take x.tokens.given) tokens_are ∙ ap (λ n. take n (handed x.tokens ++ token at Tok.value ∷ scalar ∷ [])) gone ∙ take-append_seam (handed x.tokens) (token at Tok.value ∷ scalar ∷ []) in
      fetched_on x y s.kept s.ended f
      (Reads-map _ _ t.reads (λ a b r. rw (old, new, r.0) (value_fetched q x.tokens.all ks x.levels.indent limit l.indents x.leading x.adjacent_value_at free split.1 z.deep z.off value t.spaces b t.simple r.1 t.low)))
      (record { given = same; over = refl; fault = refl; backlog = refl })
      (λ e. absurd (cc (e, s.ended)))

  pub value_follows : Follows x → Follows (value_fetcher (x.tokens.given + 2))
  value_follows f =
      let s = z.settled in
      both_handed (value_fetcher x.tokens.given) (handed x.tokens) [] (token at Tok.value) scalar s.kept s.over s.no_open_key tokens_are gone refl refl (value_fetches f)

  pub value_handed : HandsBoth (inside x) (token at Tok.value) scalar (inside (value_fetcher (x.tokens.given + 2)))
  value_handed =
      let s = z.settled in
      let more : length (x.tokens.all ++ scalar ∷ []) ≡ length x.tokens.all + 1 = length-append x.tokens.all (scalar ∷ []) in
      let shorter : length x.levels.indents ≡ suc (length l.indents) = ap length popped in
      let count = z.count in
      let left = t.reads.left in
      let moved = t.at in
      hands_both x (value_fetcher (x.tokens.given + 2)) (handed x.tokens) [] (token at Tok.value) scalar s.kept s.over refl refl refl tokens_are (ap (λ n. n + 2) gone) refl refl
      (omega (arith, more, shorter, count, left, moved))
