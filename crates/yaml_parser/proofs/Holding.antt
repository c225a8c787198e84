-- What holds between two calls, and what it says of the events.
use Rattle.yaml_parser.proofs.Common.{[], all_shown, Answers, ap, append-nil, append_assoc, AreAll, arith, At, BeginsPlaced, behind, Blames, Bool, both_ways, ErrorReport, Ev, ev_of, Event, EventReader, events_of, EventSlot, Explains, Fails, false, fault_kept, fault_seen, Faulted, first_of, Follows, Goal, goal_after, goal_of, has_end, HasPlacedTo, IfSome, inl, inr, is_over, is_stream_end, IsBottom, IsComplete, IsDerived, IsGoing, IsHeld, IsMet, IsNamed, IsOnTrack, IsPastColon, IsSome, IsSound, IsWhole, Keeping, last_position, length, length-append, List, listed, map-append, Moves, named, named_append, named_by, named_since, Names, names_at, names_by, names_since, no_names, None, Notes, nothing_left, Ok, Option, option_map, or-false, or_assoc, OutOfMemory, Parsed, peeked_tok, placed, Places, pops, Position, Raw, read, Reader, Reads, refl, Refused, scanned, shown, shown_list, Some, Stands, State, stood, Fault, StreamPlaces, StreamPlacesTo, StreamSays, subst, sym, taken_toks, to_end, tok_of, Token, toks, top_of, true, unwrap_or, weight, weights, work, work_of, ◌++◌, ◌+◌, ◌<◌, ◌||◌, ◌∙◌, ◌∷◌, ◌≡◌, ◌≤◌, IsPlaced, Extent}
use Rattle.model_parser.specs.Rest.{placed as placed_work}
use Rattle.model_parser.proofs.Standing.{begins, ends as read_whole}
use Rattle.yaml_parser.specs.Handed.{ends}
use Rattle.yaml_parser.proofs.Positions.{stood_raws, stood_positions}
use Rattle.yaml_parser.specs.Follows.{Derives}
use Rattle.yaml_parser.proofs.Since.{since_length, since_noted, since_other, since_same}
use Rattle.defs_event.proofs.OneReading.{read_in_one_way}
use Rattle.yaml_parser.proofs.Ends.{state_pending, at_derived}
use Rattle.yaml_parser.proofs.Steps.{StandsSo, begins_peeked, if_some_at}
use Rattle.yaml_parser.proofs.Nesting.{at_begins_nested}
use Rattle.defs_token.specs.Token as defs
use Rattle.yaml_tokens.specs.declared.problem.Fault.TheVariants as fault
use Rattle.model_parser.specs.declared.state.State.TheVariants as state

-- ---- the stack

popped : {T : Type 0} (p : Reader T) (s : State) (ss : List State) {names : Names} {given : List (Ev × Position)} → p.stack ≡ s ∷ ss → At Goal.done p names given → At (goal_of s) (record p { stack = ss }) names given
popped {T} p s ss {names} {given} h a =
    let b : IsPlaced Goal.done (s ∷ ss) p.tokens given a.raw = subst (λ zs. IsPlaced Goal.done zs p.tokens given a.raw) h a.place in
    let code : IsNamed p.names (names_at p.names.keeping.tags (goal_of s) names) = subst (IsNamed p.names) (sym (grind arith)) a.code in
    record {
      raw = a.raw;
      place = record {
        stands = pops b.stands;
        handed = b.handed;
        awake = λ o. b.awake refl;
        over = λ o. absurd (both_ways (is_over (goal_of s)) (grind arith) o);
        places = λ x ts es begins y. b.places x ts es begins (y.0, first_of s ss (toks ts) ∙ y.1);
        colon = subst (λ g. IsPastColon g (last_position p.tokens)) (sym (top_of s ss)) b.colon;
      };
      told = assumption (code, state_pending s names, a.told);
    }

-- ---- events, and their end

pub has_end_snoc : (es : List (Ev × Position)) (e : Ev × Position) → has_end (es ++ e ∷ []) ≡ has_end es || is_stream_end e.0
has_end_snoc [] e = or-false (is_stream_end e.0)
has_end_snoc (x ∷ es) e = ap (λ b. is_stream_end x.0 || b) (has_end_snoc es e) ∙ sym (or_assoc (is_stream_end x.0) (has_end es) (is_stream_end e.0))

answered_at : {T : Type 0} (r : Reader T) (es : List (Ev × Position)) (e : Event × Position) → has_end es ≡ false → Answers r es (Ok e) → (names : Names) × At (goal_after (has_end (es ++ placed e ∷ []))) r names (es ++ placed e ∷ [])
answered_at {T} r es e h a = (
  a.0,
  subst (λ g. At g r a.0 (es ++ placed e ∷ [])) ((grind arith) ∙ ap goal_after (sym (has_end_snoc es (placed e) ∙ ap (λ b. b || is_stream_end (ev_of e.0)) h))) a.1,
)

-- ---- settings

-- The same reader, with other settings by which the events are named alike.
pub at_settings : {T : Type 0} {g : Goal} {p : Reader T} {names : Names} {es : List (Ev × Position)} (k : Keeping) → names_at k.tags g names ≡ names_at p.names.keeping.tags g names
    → (a : At g p names es) → length k.settings.items ≤ length a.raw → (named_by k a.raw ≡ named_by p.names.keeping a.raw) × (names_by k a.raw ≡ names_by p.names.keeping a.raw) → At g (record p { names = record (p.names) { keeping = k } }) names es
at_settings {T} {g} {p} {names} k seen a few alike =
    let same : IsNamed (record (p.names) { keeping = k }) (names_at p.names.keeping.tags g names) = assumption a.code in
    record { raw = a.raw; place = a.place; told = assumption (few, alike.0 ∙ a.events, alike.1 ∙ a.names_are, subst (IsNamed (record (p.names) { keeping = k })) (sym seen) same, a.told) }

goal_seen : (b : Bool) (keep : Bool) (names : Names) → names_at keep (goal_after b) names ≡ names
goal_seen b keep names = grind arith

-- The setting with which the last event was read is noted.
pub noted_stands : {T : Type 0} (p : Reader T) (k : Keeping) (es : List (Ev × Position)) (names : Names) → Notes p.names.keeping k → At (goal_after (has_end es)) p names es → length p.names.keeping.settings.items + 1 ≡ length es
    → Stands (record p { names = record (p.names) { keeping = k } }) es
noted_stands {T} p k es names n a each =
    let ks = p.names.keeping.settings.items in
    let keep = p.names.keeping.tags in
    let more : length (ks ++ keep ∷ []) ≡ length ks + 1 = length-append ks (keep ∷ []) in
    let all : length k.settings.items ≡ length es = ap length n.settings ∙ more ∙ each in
    let no_more : length a.raw ≤ length ks + 1 = omega (arith, a.count, each) in
    record {
      names = names;
      here = at_settings k (ap (λ b. names_at b (goal_after (has_end es)) names) n.tags) a (omega (arith, all, a.count)) (rw (n.settings, n.tags) (since_noted ks keep no_names a.raw no_more));
      each = all;
    }

-- Another setting counts from now on.
pub set_stands : {T : Type 0} (p : Reader T) (k : Keeping) (es : List (Ev × Position)) → k.settings ≡ p.names.keeping.settings → Stands p es → Stands (record p { names = record (p.names) { keeping = k } }) es
set_stands {T} p k es same x =
    let ks = p.names.keeping.settings.items in
    let items : k.settings.items ≡ ks = ap (λ h. h.items) same in
    let a = x.here in
    let no_more : length a.raw ≤ length ks = omega (arith, a.count, x.each) in
    record {
      names = x.names;
      here = at_settings k (goal_seen (has_end es) k.tags x.names ∙ sym (goal_seen (has_end es) p.names.keeping.tags x.names)) a (subst (λ xs. length xs ≤ length a.raw) (sym items) a.few)
          (rw items (since_other ks k.tags p.names.keeping.tags no_names a.raw no_more));
      each = ap length items ∙ x.each;
    }

-- ---- what the stack says

open_at : {T : Type 0} (b : Bool) (p : Reader T) (s : State) (ss : List State) {names : Names} {es : List (Ev × Position)} → p.stack ≡ s ∷ ss → At (goal_after b) p names es → (b ≡ false) × At Goal.done p names es
open_at {T} true p s ss h a = absurd (subst IsBottom h a.stands.fits)
open_at {T} false p s ss h a = (refl, a)

closed_at : {T : Type 0} (b : Bool) (p : Reader T) {names : Names} {es : List (Ev × Position)} → p.stack ≡ [] → At (goal_after b) p names es → b ≡ true
closed_at {T} true p h a = refl
closed_at {T} false p h a = absurd (subst IsGoing h a.stands.fits)

-- ---- one call

-- where nothing is awaited, the stream's end was read
pub closed : {T : Type 0} (p : Reader T) (es : List (Ev × Position)) → p.stack ≡ [] → IsHeld p es None → has_end es ≡ true
closed {T} p es h x = closed_at (has_end es) p h x.here

pub pulled : {T E : Type 0} (p r : Reader T) (s : State) (ss : List State) (es : List (Ev × Position)) (slot : EventSlot) (k : Keeping)
    → p.stack ≡ s ∷ ss → IsHeld p es None → Reads {E = E} (goal_of s) (record p { stack = ss }) r (Ok (tt {0})) slot → Moves {E = E} (weight s) 1 (record p { stack = ss }) r (Ok (tt {0})) → Notes r.names.keeping k
    → (has_end es ≡ false) × (work r < work p) × Notes p.names.keeping k × IsHeld (record r { names = record (r.names) { keeping = k } }) (es ++ placed slot.next ∷ []) None
pulled {T} p r s ss es slot k h x reads bounds notes =
    let e = slot.next in
    let o = open_at (has_end es) p s ss h x.here in
    let a = answered_at r es e o.0 (reads.so x.names es (popped p s ss h o.1)) in
    let keep : r.names.keeping ≡ p.names.keeping = bounds.input.keeping in
    let less : work r + 1 ≤ work (record p { stack = ss }) + weight s = bounds.bound in
    let popped_is : weights p.stack ≡ weight s + weights ss = ap weights h in
    let each : length r.names.keeping.settings.items + 1 ≡ length (es ++ placed e ∷ []) = ap (λ q. length q.settings.items + 1) keep ∙ ap (λ n. n + 1) x.each ∙ sym (length-append es (placed e ∷ [])) in
    (o.0, omega (arith, less, popped_is), subst (λ q. Notes q k) keep notes, noted_stands r k (es ++ placed e ∷ []) a.0 notes a.1 each)

pub failed : {T : Type 0} (p r : Reader T) (s : State) (ss : List State) (es : List (Ev × Position)) (u : Option Fault)
    → p.stack ≡ s ∷ ss → IsHeld p es None → Fails (goal_of s) (record p { stack = ss }) r u → (has_end es ≡ false) × Faulted r es u
failed {T} p r s ss es u h x reads =
    let o = open_at (has_end es) p s ss h x.here in
    (o.0, reads x.names es (popped p s ss h o.1))

pub keeps : {T : Type 0} (p : EventReader T) (es : List (Ev × Position)) (u : Option Fault) {f : ErrorReport} → fault_kept p ≡ Some f → IfSome p.kept (λ k. k.0 ≡ u) → (has_end es ≡ false) × Faulted p.reader es u → IsHeld p.reader es p.kept × IsMet p.reader es p.kept
keeps {T} p es u {f} h k x = kept_at p.kept h k
  where
    kept_at : (o : Option (Option Fault × Position)) → option_map (λ z. fault_seen z.0 z.1 (scanned p.reader.tokens.scanner).fault) o ≡ Some f → IfSome o (λ z. z.0 ≡ u) → IsHeld p.reader es o × IsMet p.reader es o
    kept_at None e k = cc
    kept_at (Some z) e k = (x.0, subst (Faulted p.reader es) (sym k) x.1)

-- ---- at the beginning

pub begun : {T : Type 0} (p : Reader T) → p.stack ≡ state.Stream ∷ [] → p.tokens.peeked ≡ None → p.tokens.taken.items ≡ [] → (scanned p.tokens.scanner).given ≡ [] → (scanned p.tokens.scanner).ended ≡ false → (scanned p.tokens.scanner).fault ≡ None → IsNamed p.names no_names
    → p.names.keeping.settings.items ≡ [] → IsHeld p [] None
begun {T} p stack peeked taken given ended clear code none = record {
  names = no_names;
  here = record {
    raw = [];
    place = rw stack (record {
      stands = subst (λ ts. IsOnTrack Goal.done (state.Stream ∷ []) (toks (all_shown ts)) (peeked_tok p.tokens) []) (sym taken) (begins (peeked_tok p.tokens));
      handed = given ∙ sym (ap (λ ts. all_shown ts ++ shown_list p.tokens.peeked) taken ∙ ap shown_list peeked);
      awake = λ o. (ended ∙ sym (ap ends peeked), clear);
      over = λ o. peeked;
      places = λ x ts es begins y. subst (λ us. StreamPlacesTo x (all_shown us ++ ts) es) (sym taken) (subst (λ us. Places x (behind None (all_shown us)) (placed_work (work_of Goal.done (state.Stream ∷ []))) ts es) taken y.0);
      colon = tt;
    });
    told = record {
      count = refl;
      few = subst (λ xs. length xs ≤ 0) (sym none) (omega arith);
      events = ap (λ xs. named_since xs p.names.keeping.tags no_names []) none;
      names_are = ap (λ xs. names_since xs p.names.keeping.tags no_names []) none;
      code = code;
      pending = tt;
    };
  };
  each = ap length none;
}

-- ---- what is said of the events

-- What clauses see, where this is the reader.
abbrev pub seen_of : {T : Type 0} → Reader T → Parsed → Parsed
seen_of p v = record v { scanner = scanned p.tokens.scanner; keep_tags = p.names.keeping.tags; steady = p.names.keeping.steady; settings = p.names.keeping.settings.items }

-- the tokens handed out: those that were taken, and one that was looked at
handed_all : {T : Type 0} {p : Reader T} {g : Goal} {names : Names} {es : List (Ev × Position)} → At g p names es → (scanned p.tokens.scanner).given ≡ all_shown p.tokens.taken.items ++ listed (option_map shown p.tokens.peeked)
handed_all {T} {p} a = a.handed ∙ ap (λ xs. all_shown p.tokens.taken.items ++ xs) (sym (grind arith))

same_before : (o : Option (List Ev)) {es fs : List Ev} → o ≡ Some es → o ≡ Some fs → fs ≡ es
same_before o h k = cc

events_length : (es : List (Ev × Position)) → length (events_of es) ≡ length es
events_length [] = refl
events_length (e ∷ es) = omega (arith, events_length es)

-- as many events as there are before names are resolved
pub many : (ks : List Bool) (k : Bool) (raw : List Raw) (es : List (Ev × Position)) → named_since ks k no_names raw ≡ Some (events_of es) → length raw ≡ length es
many ks k raw es h = since_length ks k no_names raw (events_of es) h ∙ events_length es

bottom : (ss : List State) → IsBottom ss → ss ≡ []
bottom ss b = grind arith

-- The events at their positions, where all settings were the same.
has_placed : {x : Extent} {ts : List defs.Token} (ks : List Bool) (k : Bool) (raw : List Raw) (es : List (Ev × Position)) → AreAll k ks → StreamPlacesTo x ts (stood raw es) → named_since ks k no_names raw ≡ Some (events_of es) → HasPlacedTo x k ts es
has_placed ks k raw es steady placed h =
    let count = many ks k raw es h in
    record {
      raws = stood raw es;
      says = placed;
      has_events = ap (named k no_names) (stood_raws raw es count) ∙ sym (since_same ks k no_names raw steady) ∙ h;
      has_positions = stood_positions raw es count;
    }

derived_begins : (v : Parsed) {before : List defs.Token} {raw : List Raw} → AreAll v.keep_tags v.settings → IsDerived v.settings v.keep_tags before raw (read v) → BeginsPlaced v.keep_tags before (read v)
derived_begins v {raw = raw} steady d =
    let x = has_placed {x = to_end} v.settings v.keep_tags (raw ++ d.more_raw) (read v ++ d.more_events) steady d.stream.places d.stream.has_events in
    record { more_tokens = d.more_tokens; more_events = d.more_events; stream = record { raws = x.raws; says = x.says; has_events = x.has_events; has_positions = x.has_positions } }

steady_follows : (v : Parsed) → AreAll v.keep_tags v.settings → Derives v → Follows v
steady_follows v steady d = record {
  before = d.before;
  last = d.last;
  tokens = d.tokens;
  begins = derived_begins v steady d.derived;
  only = λ ts fs x.
      let o = d.only ts x.raws x.says in
      let n = named_append v.keep_tags no_names d.raw o.0 fs (ap (named v.keep_tags no_names) (sym o.1) ∙ x.has_events) in
      let all = sym (since_same v.settings v.keep_tags no_names d.raw steady) ∙ d.derived.named in
      (n.after, n.whole ∙ ap (λ vs. vs ++ n.after) (same_before (named v.keep_tags no_names d.raw) all n.of_before));
}

steady_whole : (v : Parsed) → AreAll v.keep_tags v.settings → IsComplete v → IsWhole v
steady_whole v steady x =
    let y = has_placed {x = to_end} v.settings v.keep_tags x.raw (read v) steady x.stream.places x.stream.has_events in
    record {
      stream = record { raws = y.raws; says = y.says; has_events = y.has_events; has_positions = y.has_positions };
      only = λ ts es z.
          let none = x.only ts z.raws z.says in
          let says = subst (λ us. StreamSays us z.raws) (ap (λ us. toks v.scanner.given ++ us) none ∙ append-nil (toks v.scanner.given)) z.says in
          let same = read_in_one_way (toks v.scanner.given) z.raws x.raw says x.stream.says in
          let all = sym (since_same v.settings v.keep_tags no_names x.raw steady) ∙ x.stream.has_events in
          (none, same_before (named v.keep_tags no_names x.raw) all (ap (named v.keep_tags no_names) (sym same) ∙ z.has_events));
    }

-- ---- at the end

-- All tokens were taken, and nothing is awaited any more.
at_complete : {T : Type 0} (p : Reader T) (names : Names) (v : Parsed) → At Goal.ended p names (read v) → IsComplete (seen_of p v)
at_complete {T} p names v a =
    let items = all_shown p.tokens.taken.items in
    let taken : (scanned p.tokens.scanner).given ≡ items = a.handed ∙ ap (λ o. items ++ shown_list o) (a.over refl) ∙ append-nil items in
    let o = read_whole p.stack (taken_toks p.tokens) a.raw (subst (λ x. IsOnTrack Goal.ended p.stack (taken_toks p.tokens) (option_map (λ (t : Token). tok_of t.1) x) a.raw) (a.over refl) a.stands) in
    let all : StandsSo items None (last_position p.tokens) Goal.ended [] (stood a.raw (read v)) =
    subst (λ ss. StandsSo items None (last_position p.tokens) Goal.ended ss (stood a.raw (read v))) (bottom p.stack a.stands.fits)
    (subst (λ o. StandsSo items o (last_position p.tokens) Goal.ended p.stack (stood a.raw (read v))) (a.over refl) a.places) in
    let placed : StreamPlaces items (stood a.raw (read v)) =
    subst (λ ts. StreamPlaces ts (stood a.raw (read v))) (append-nil items) (subst (λ xs. StreamPlaces (items ++ []) xs) (append-nil (stood a.raw (read v))) (all to_end [] [] tt (nothing_left, refl))) in
    record {
      raw = a.raw;
      stream = record {
        says = subst (λ ts. StreamSays ts a.raw) (ap toks (sym taken)) o.0;
        has_events = a.events;
        places = subst (λ ts. StreamPlaces ts (stood a.raw (read v))) (sym taken) placed;
      };
      only = λ ts fs d. (o.1 ts fs (subst (λ us. StreamSays us fs) (ap (λ z. toks z ++ ts) taken) d)).0;
    }

-- ---- between two calls

at_derives : {T : Type 0} {g : Goal} (p : Reader T) (names : Names) (v : Parsed) → At g p names (read v) → Derives (seen_of p v)
at_derives {T} {g} p names v a = record {
  before = all_shown p.tokens.taken.items;
  last = option_map shown p.tokens.peeked;
  tokens = handed_all a;
  raw = a.raw;
  derived = at_derived g p names (read v) a;
  only = λ ts fs d.
      let ahead = toks (shown_list p.tokens.peeked) in
      let all = ap (λ xs. toks xs ++ ts) a.handed ∙ ap (λ xs. xs ++ ts) (map-append (λ (x : defs.Token). x.tok) (all_shown p.tokens.taken.items) (shown_list p.tokens.peeked)) ∙ append_assoc (taken_toks p.tokens) ahead ts in
      let o = a.stands.exact (ahead ++ ts) fs (begins_peeked p.tokens.peeked ts) (subst (λ us. StreamSays us fs) all d) in
      (o.0, o.1);
}

-- whether all settings were the one that there is, as the code knows it
abbrev pub KnowsSteady : Keeping → Type 0
KnowsSteady k = k.steady ≡ true → AreAll k.tags k.settings.items

pub held_sound : {T : Type 0} (p : Reader T) (v : Parsed) → IsHeld p (read v) None → KnowsSteady p.names.keeping → v.fault ≡ None → IsSound (seen_of p v)
held_sound {T} p v x known none =
    let derives = at_derives p x.names v x.here in
    let complete : has_end (read v) ≡ true → IsComplete (seen_of p v) = λ end. at_complete p x.names v (subst (λ b. At (goal_after b) p x.names (read v)) end x.here) in
    record {
      fault = none;
      nested = at_begins_nested (goal_after (has_end (read v))) p x.names (read v) x.here;
      derives = derives;
      complete = complete;
      steady = known;
      follows = λ steady. steady_follows (seen_of p v) (known steady) derives;
      whole = λ steady end. steady_whole (seen_of p v) (known steady) (complete end);
    }

blames_refused : (v : Parsed) {f : ErrorReport} → AreAll v.keep_tags v.settings → Blames f v.settings v.keep_tags v.scanner.given (read v) → Refused v
blames_refused v steady x = record {
  before = x.before;
  last = x.last;
  tokens = x.whole;
  begins = derived_begins v steady x.derived;
  none = λ ts fs y. x.unnamed ts y.raws fs y.says (since_same v.settings v.keep_tags no_names y.raws steady ∙ y.has_events);
}

explained : {T : Type 0} (p : Reader T) (v : Parsed) (u : Option Fault) (m : Position) (f : ErrorReport) → fault_seen u m (scanned p.tokens.scanner).fault ≡ f → Faulted p (read v) u → KnowsSteady p.names.keeping → Explains f (seen_of p v)
explained {T} p v (Some OutOfMemory) m f h x known = inr (inl (record { memory = ap (λ z. z.memory) (sym h); text = ap (λ z. z.text) (sym h) }))
explained {T} p v (Some (fault.At q n)) m f h x known =
    let blames = subst (λ g. Blames g p.names.keeping.settings.items p.names.keeping.tags (scanned p.tokens.scanner).given (read v)) h x.blames in
    inr (inr (record { blames = blames; steady = known; refused = λ steady. blames_refused (seen_of p v) (known steady) blames }))
explained {T} p v None m f h x known =
    let kept : (scanned p.tokens.scanner).fault ≡ Some f = kept_some (scanned p.tokens.scanner).fault _ x.0.0 h in
    inl (record {
      fault = kept;
      settled = if_some_at (λ (g : ErrorReport). g.memory ≡ false → (scanned p.tokens.scanner).early ≡ false) x.0.1 kept;
      halted = x.1;
      begins = λ steady. derived_begins (seen_of p v) (known steady) x.1.derived;
      so_far = λ steady. has_placed p.names.keeping.settings.items p.names.keeping.tags x.1.raw (read v) (known steady) x.1.so_far x.1.derived.named;
    })
  where
    kept_some : (o : Option ErrorReport) (d : ErrorReport) {g : ErrorReport} → IsSome o → unwrap_or o d ≡ g → o ≡ Some g
    kept_some None d i e = cc
    kept_some (Some y) d i e = ap Some e

pub held_explained : {T : Type 0} (p : Reader T) (v : Parsed) (o : Option (Option Fault × Position)) (f : ErrorReport) → option_map (λ k. fault_seen k.0 k.1 (scanned p.tokens.scanner).fault) o ≡ Some f → IsMet p (read v) o → KnowsSteady p.names.keeping → Explains f (seen_of p v)
held_explained {T} p v None f h x known = cc
held_explained {T} p v (Some k) f h x known = let e : fault_seen k.0 k.1 (scanned p.tokens.scanner).fault ≡ f = cc in explained p v k.0 k.1 f e x known
