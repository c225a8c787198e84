-- What was fetched and handed out is a run of the model.
use Rattle.std.specs.Prelude.{IfSome}
use Rattle.yaml_scanner.proofs.Common.{[], suc, zero, Key, rules, ap, append_assoc, AreBehind, AreSettled, arith, At, BeginsWith, Bool, both_ways, codes, drop, Err, ErrorReport, false, Fault, fetch, Fetcher, Fetches, Follows, FollowsIn, handed, has_end, has_no_nul, HasTokens, held, here, ImplicitKey, inl, inr, inside, is_end, is_front, IsReached, IsRefusal, IsRefused, IsShort, LeavesNoRow, length, length-drop, length-take, List, list_any, lowered, map, nat_tests, None, not_refused, nothing_held, Ok, one_fault, one_list, one_more, Option, option_map, OutOfMemory, Position, position_of, Possible-taken, Reaches, Reads, refl, run_to_end, Scanned, Scans, seen, Some, start, state, subst, sym, take, take-append-drop, Tok, Token, Tokens, true, ℕ, ◌++◌, ◌+◌, ◌-◌, ◌<◌, ◌||◌, ◌∙◌, ◌∷◌, ◌≡◌, ◌≢◌, ◌≤◌}
use Rattle.yaml_tokens.specs.Problem.{fault_of}
use Rattle.std.proofs.lemmas.List.{take_all}
use Rattle.model_scanner.proofs.Given.{GivenStands, KeysFrom, reached}
use Rattle.model_scanner.proofs.Ends.{end_is_last}
use Rattle.yaml_scanner.specs.declared.fetcher.Backlog.{Backlog}
use Rattle.yaml_scanner.specs.Rowless.{HasNoRow}
use Rattle.yaml_scanner.specs.Waits.{comes_before}
use Rattle.yaml_scanner.proofs.KeyLemmas.{lowered_seen}
use Rattle.yaml_scanner.proofs.WhereLemmas.{Standing, in_text, at_end, not_started, has_started, standing}
use Rattle.yaml_scanner.proofs.QueueLemmas.{has_end_append}
use Rattle.defs_token.specs.Cut.{IsCutOfBeginning, tokens_of, end_token}
use Rattle.proof_scanner.proofs.Cut.Faults.Fetches.{faults_stand}
use Rattle.proof_scanner.proofs.Sound.FirstTokens.{first_tokens_are_cut}
use Rattle.defs_token.specs.Row.{IsRead}
use Rattle.proof_scanner.proofs.Sound.Sound.{tokens_are_of_a_row}
use Rattle.proof_scanner.proofs.Complete.{texts_with_a_row_are_read}
use Rattle.proof_scanner.proofs.Refusals.Refusals.{refused_texts_are_stuck}

-- before a text
pub starts : {T : Type 0} (x : Fetcher T) → held x ≡ nothing_held → x.window.at ≡ 0 → x.kept ≡ None → handed x.tokens ≡ [] → x.tokens.over ≡ false → x.backlog ≡ None → Follows x
starts x e n k h o b = λ a p. record {
  run = λ _ _. subst (λ t. Reaches (start a) t) (sym (ap (λ m. state (drop m a) x) n ∙ ap (λ h. record { rest = a; held = h }) e)) here;
  all = λ _ f. let g : x.tokens.ended ≡ false = ap (λ h. h.ended) e in absurd cc;
  done = λ _ f. let g : x.tokens.ended ≡ false = ap (λ h. h.ended) e in absurd cc;
  reached = record { last = start a; run = here; begins = record { more = []; whole = rw h refl }; behind = λ _. tt };
  begins = λ ts _. record { more = ts; whole = rw h refl };
  whole = λ f. absurd cc;
  refused = rw k tt;
  settled = rw k tt;
  open_end = λ _. rw h refl;
  backlog = rw b tt;
}

-- after steps of the model that refuse nothing
pub went_on : {T : Type 0} (x y : Fetcher T) → x.kept ≡ None → Fetches x y → (y.tokens.ended ≡ true → y.window.done ≡ true) → (a : List ℕ) → FollowsIn a x → Reaches (start a) (state (drop y.window.at a) y) → FollowsIn a y
went_on x y k m n a old run = record {
  run = λ _ _. run;
  all = λ _ e. record { whole = record { end = state (drop y.window.at a) y; run = run; ended = e; tokens = refl }; position = refl; began = refl };
  done = λ _ e. n e;
  reached = rw m.given old.reached;
  begins = λ ts h. rw m.given (old.begins ts h);
  whole = λ o. rw m.given (old.whole (sym m.over ∙ o));
  refused = rw (m.fault, k) tt;
  settled = rw (m.fault, k) tt;
  open_end = λ o. rw m.given (old.open_end (sym m.over ∙ o));
  backlog = rw m.backlog old.backlog;
}

-- a fetch more
pub fetched_on : {T : Type 0} (x y : Fetcher T) → x.kept ≡ None → x.tokens.ended ≡ false → Follows x → Reads x.window y.window (λ a b. fetch (state a x) ≡ Ok (state b y)) → Fetches x y → (y.tokens.ended ≡ true → y.window.done ≡ true) → Follows y
fetched_on x y k g f d m n = λ a p. let old = f a (d.back a p) in went_on x y k m n a old (one_more (old.run k g) g (d.reads a p))

-- ---- what is settled

-- a key that may come before the next token, by the number of that token
is_numbered : (given : ℕ) (ks : List (Option ImplicitKey)) → list_any is_front ks ≡ true → list_any (comes_before given) (seen given ks) ≡ true
is_numbered given [] e = absurd cc
is_numbered given (None ∷ ks) e = is_numbered given ks e
is_numbered given (Some k ∷ ks) e = let rest = is_numbered given ks in grind (arith, nat_tests)

keys_behind : (n m : ℕ) (ks : List (Option ImplicitKey)) → n ≤ m → AreBehind n (seen m ks)
keys_behind n m [] l = tt
keys_behind n m (None ∷ ks) l = (tt, keys_behind n m ks l)
keys_behind n m (Some k ∷ ks) l = (omega arith, keys_behind n m ks l)

-- all tokens were handed out; or a key may come before the next one
all_handed : (n : ℕ) (xs : List Token) (ks : List (Option ImplicitKey)) → (0 < length xs - n → list_any is_front ks ≡ true) → list_any (comes_before (length (take n xs))) (seen n ks) ≡ false → xs ≡ take n xs
all_handed n xs ks short none = by (length xs - n) refl
  where
    by : (k : ℕ) → length xs - n ≡ k → xs ≡ take n xs
    by zero e = sym (take_all n xs (omega (arith, e)))
    by (suc k) e =
        let count : length (take n xs) ≡ n = length-take n xs ∙ (let z = e in omega (arith, z)) in
        absurd (both_ways (list_any (comes_before (length (take n xs))) (seen n ks)) none (rw count (is_numbered n ks (short (omega (arith, e))))))

-- a refusal, which is then kept
pub stopped : {T : Type 0} (x y : Fetcher T) (mark : Position) (early : Bool) → x.kept ≡ None → x.tokens.ended ≡ false → (early ≡ false → IsShort x) → Follows x → Reads x.window y.window (λ a b. y.fault ≢ OutOfMemory → fetch (state a x) ≡ Err y.fault) → Fetches x y → Follows (record y { kept = Some mark; early = early })
stopped x y mark early n g short f d m = λ a p.
    let old = f a (d.back a p) in
    let q = x.tokens in
    let refused : y.fault ≢ OutOfMemory → IsRefused a y.fault = λ e. record { last = state (drop x.window.at a) x; run = old.run n g; going = g; refused = d.reads a p e } in
    record {
      run = λ c _. absurd cc;
      all = λ c _. absurd cc;
      done = λ c _. absurd cc;
      reached = rw m.given old.reached;
      begins = λ ts h. rw m.given (old.begins ts h);
      whole = λ o. rw m.given (old.whole (sym m.over ∙ o));
      refused = refused;
      settled = λ late e. rw m.given record {
        fault = y.fault;
        refused = refused e;
        begins = record { more = drop q.given q.all; whole = sym (take-append-drop q.given q.all) };
        behind = keys_behind (length (handed q)) q.given x.keys (rw (length-take q.given q.all) (omega arith));
        all = all_handed q.given q.all x.keys (short late);
      };
      open_end = λ o. rw m.given (old.open_end (sym m.over ∙ o));
      backlog = rw m.backlog old.backlog;
    }

-- ---- tokens that wait

-- more tokens wait than there is room for, and the fault is kept
pub held_up : {T : Type 0} (x : Fetcher T) (b : Backlog) (mark : Position) → x.kept ≡ None → x.tokens.ended ≡ false → Follows x → list_any is_front x.keys ≡ true → x.tokens.given + b.tokens ≡ length x.tokens.all → b.mark ≡ position_of x.window
    → Follows (record x { backlog = Some b; kept = Some mark; early = false; fault = OutOfMemory })
held_up x b mark n g f front count at = λ a p.
    let old = f a p in
    record {
      run = λ c _. absurd cc;
      all = λ c _. absurd cc;
      done = λ c _. absurd cc;
      reached = old.reached;
      begins = old.begins;
      whole = old.whole;
      refused = λ q. absurd (q refl);
      settled = λ late q. absurd (q refl);
      open_end = old.open_end;
      backlog = record { last = state (drop x.window.at a) x; run = old.run n g; going = g; is_here = sym at; before = x.tokens.given; may = is_numbered x.tokens.given x.keys front; tokens = count };
    }

-- the room is of no account
pub with_room : {T : Type 0} (x : Fetcher T) (n : ℕ) → Follows x → Follows (record x { room = n })
with_room x n f = λ a p. let old : FollowsIn a x = f a p in search rules

-- ---- a token is handed out

is_the_end : (t : Tok) → is_end t ≡ true → t ≡ Tok.stream_end
is_the_end Tok.stream_end e = refl
is_the_end t e = absurd cc

from_behind : (n : ℕ) (ks : List (Option Key)) → AreBehind n ks → KeysFrom n ks
from_behind n [] h = tt
from_behind n (None ∷ ks) h = (tt, from_behind n ks h.1)
from_behind n (Some k ∷ ks) h = (h.0, from_behind n ks h.1)

-- what is settled are the first of all tokens
begins_of : (a : List ℕ) (given ts : List Token) → IsReached a given → HasTokens a ts → BeginsWith given ts
begins_of a given ts r h = by r.last.held.ended refl
  where
    by : (b : Bool) → r.last.held.ended ≡ b → BeginsWith given ts
    by true e = record { more = r.begins.more; whole = one_list a ts r.last.held.tokens h (record { end = r.last; run = r.run; ended = e; tokens = refl }) ∙ r.begins.whole }
    by false e =
        let stands : GivenStands given r.last.held = record { stood = record { more = r.begins.more; tokens = r.begins.whole; keys = from_behind (length given) r.last.held.keys (r.behind e) } } in
        let s = reached given r.last h.end (run_to_end a ts r.last h r.run) stands in
        record { more = s.stood.more; whole = sym h.tokens ∙ s.stood.tokens }

-- Tokens more are handed out, up to a number, where no key may come before them. The stream's end is the last of all.
module _ {T : Type 0} (x : Fetcher T) (a : List ℕ) (old : FollowsIn a x) (kept : x.kept ≡ None) (n : ℕ) (ks : List (Option ImplicitKey)) (over : Bool)
    (same : x.tokens.ended ≡ false → seen n ks ≡ seen x.tokens.given x.keys) where
  reached_after : IsReached a (take n x.tokens.all)
  reached_after =
      let z = standing x a old kept in
      record {
        last = z.last;
        run = z.run;
        begins = record { more = drop n x.tokens.all; whole = z.tokens ∙ sym (take-append-drop n x.tokens.all) };
        behind = λ g.
            let e = sym z.ended ∙ g in
            rw (z.keys e, ← same e) (keys_behind (length (take n x.tokens.all)) n ks (rw (length-take n x.tokens.all) (omega arith)));
      }

  pub given_on : (over ≡ true → HasTokens a (take n x.tokens.all)) → (over ≡ false → has_end (take n x.tokens.all) ≡ false) → FollowsIn a (record x { tokens = record x.tokens { given = n; over = over }; keys = ks })
  given_on whole none = record {
    run = λ _ e. rw (same e) (old.run kept e);
    all = old.all;
    done = old.done;
    reached = reached_after;
    begins = λ ts. begins_of a (take n x.tokens.all) ts reached_after;
    whole = whole;
    refused = rw kept tt;
    settled = rw kept tt;
    open_end = none;
    backlog = old.backlog;
  }

-- once the stream's end is handed out, all tokens are
whole_after : {T : Type 0} (x : Fetcher T) (a : List ℕ) (t : Token) (n : ℕ) → Standing x a → take n x.tokens.all ≡ handed x.tokens ++ t ∷ [] → is_end t.tok ≡ true → HasTokens a (take n x.tokens.all)
whole_after x a t n z first i =
    let whole = z.tokens ∙ sym (take-append-drop n x.tokens.all) ∙ ap (λ ts. ts ++ drop n x.tokens.all) first ∙ append_assoc (handed x.tokens) (t ∷ []) (drop n x.tokens.all) in
    let l = end_is_last a z.last (handed x.tokens) (drop n x.tokens.all) t z.run whole (is_the_end t.tok i) in
    record { end = z.last; run = z.run; ended = l.0; tokens = z.tokens ∙ sym (take_all n x.tokens.all (omega (arith, sym (length-drop n x.tokens.all) ∙ ap length l.1))) }

-- a token more is handed out
pub handed_on : {T : Type 0} (x : Fetcher T) (q : Tokens) (ks : List (Option ImplicitKey)) (t : Token) → x.kept ≡ None → x.tokens.over ≡ false → (x.tokens.ended ≡ false → list_any is_front x.keys ≡ false)
    → q ≡ record x.tokens { given = x.tokens.given + 1; over = x.tokens.over || is_end t.tok } → handed q ≡ handed x.tokens ++ t ∷ [] → ks ≡ map lowered x.keys → Follows x → Follows (record x { tokens = q; keys = ks })
handed_on x q ks t k o front e g i f = λ a p.
    let old = f a p in
    let first = sym (ap handed e) ∙ g in
    rw (e, i) (given_on x a old k (x.tokens.given + 1) (map lowered x.keys) (x.tokens.over || is_end t.tok) (λ n. lowered_seen x.tokens.given x.keys (front n))
    (λ l. whole_after x a t (x.tokens.given + 1) (standing x a old k) first (grind (arith, o, l)))
    (λ l. rw (first, has_end_append (handed x.tokens) (t ∷ []), old.open_end o) (grind arith)))

-- ---- as callers see it

begun_cut : (ts : List Token) (a : List ℕ) → IsReached a ts → has_end ts ≡ false → has_no_nul a ≡ true → IsCutOfBeginning ts a
begun_cut ts a r e n = elim (first_tokens_are_cut a ts r.begins.more r.last n r.run r.begins.whole) [
  | inl c ↦
      let end : has_end ts ≡ true = rw (c.are_tokens, has_end_append (tokens_of c.row) (end_token c.end ∷ [])) (grind arith) in
      absurd (cc (e, end))
  | inr c ↦ c
]

memory_sound : (e : Fault) (kept : Option Position) (a : List ℕ) → IfSome kept (λ _. e ≢ OutOfMemory → IsRefused a e) → (ts : List Token) → HasTokens a ts → IfSome (option_map (fault_of e) kept) (λ x. x.memory ≡ true)
memory_sound e kept a r ts h = grind (arith, not_refused a ts e h)

memory_says : (e : Fault) (kept : Option Position) → IfSome (option_map (fault_of e) kept) (λ x. x.memory ≡ true → x.text ≡ codes "out of memory")
memory_says e kept = grind arith

-- a refused text has no row
is_refusal : (e : Fault) (kept : Option Position) (a : List ℕ) → has_no_nul a ≡ true → IfSome kept (λ _. e ≢ OutOfMemory → IsRefused a e) → IfSome (option_map (fault_of e) kept) (λ x. x.memory ≡ false → IsRefusal a x)
is_refusal e None a n r = tt
is_refusal OutOfMemory (Some m) a n r = λ none. absurd cc
is_refusal (At q p) (Some m) a n r = λ none.
    let refused = r (λ e. absurd cc) in
    record {
      fault = At q p;
      position = m;
      refused = refused;
      shown = refl;
      stands = faults_stand a (At q p) n refused;
      rowless = record { why = q; at = p; shown = refl; rowless = λ ts row. not_refused a ts (At q p) (texts_with_a_row_are_read a ts n row) refused; stuck = refused_texts_are_stuck a q p n refused };
    }

one_refusal : (a : List ℕ) (o : Option ErrorReport) → IfSome o (λ x. x.memory ≡ false → IsRefusal a x) → (e : Fault) → IsRefused a e → IfSome o (λ x. x.memory ≡ false → (p : Position) × (x ≡ fault_of e p))
one_refusal a None r e i = tt
one_refusal a (Some x) r e i = λ n. let z = r n in (z.position, z.shown ∙ ap (λ d. fault_of d z.position) (one_fault a z.fault e z.refused i))

all_settled : (e : Fault) (kept : Option Position) (early : Bool) (a : List ℕ) (given : List Token) → IfSome kept (λ _. early ≡ false → e ≢ OutOfMemory → AreSettled a given) → early ≡ false → IfSome (option_map (fault_of e) kept) (λ x. x.memory ≡ false → AreSettled a given)
all_settled e kept early a given s late = grind arith

none_kept : (e : Fault) (kept : Option Position) → option_map (fault_of e) kept ≡ None → kept ≡ None
none_kept e kept h = grind arith

pub scans_from : {T : Type 0} (x : Fetcher T) → Follows x → Scans (inside x)
scans_from x f = record {
  done = λ k e. (f x.window.taken (Possible-taken x.window)).done (none_kept x.fault x.kept k) e;
  scans = λ a m.
      let s = f a (record { begins = m.begins; ends = m.ends }) in
      let refused = is_refusal x.fault x.kept a m.no_nul s.refused in
      let read : (ts : List Token) → IsRead a ts → HasTokens a ts = λ ts row. texts_with_a_row_are_read a ts m.no_nul row in
      record {
        no_nul = m.no_nul;
        reached = s.reached;
        begins = λ ts row. s.begins ts (read ts row);
        whole = λ o. tokens_are_of_a_row a (handed x.tokens) m.no_nul (s.whole o);
        begun = λ o. begun_cut (handed x.tokens) a s.reached (s.open_end o) m.no_nul;
        position = λ k e. in_text x a s (none_kept x.fault x.kept k) m.no_nul e;
        end = λ k e. at_end x a s (none_kept x.fault x.kept k) m.no_nul e;
        none = λ k b. not_started x a s (none_kept x.fault x.kept k) m.no_nul b;
        some = λ k b. has_started x a s (none_kept x.fault x.kept k) m.no_nul b;
        sound = λ ts row. memory_sound x.fault x.kept a s.refused ts (read ts row);
        wants = memory_says x.fault x.kept;
        refused = refused;
        same = one_refusal a (option_map (fault_of x.fault) x.kept) refused;
        settled = all_settled x.fault x.kept x.early a (handed x.tokens) s.settled;
        waits = s.backlog;
      };
}

-- what a scanner has of a fault that it keeps
pub leaves_no_row : (s : Scanned) (f : ErrorReport) → Scans s → s.fault ≡ Some f → LeavesNoRow s f
leaves_no_row s f scans kept m a may = by s.fault kept (scans.scans a may).refused
  where
    by : (o : Option ErrorReport) → o ≡ Some f → IfSome o (λ g. g.memory ≡ false → IsRefusal a g) → HasNoRow a f
    by None e h = absurd cc
    by (Some g) e h = let same : g ≡ f = cc in subst (HasNoRow a) same (h (ap (λ x. x.memory) same ∙ m)).rowless
