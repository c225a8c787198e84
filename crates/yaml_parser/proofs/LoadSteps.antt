-- The steps of `load`.
use Rattle.yaml_parser.proofs.Common.{[], after_document, ap, append-nil, append_assoc, arith, BeginsNested, Bool, ends, EndsSo, Err, ErrorReport, Ev, events_of, false, false_from_ne_true, GivesEvent, Going, if◌then◌else◌, inl, inr, is_document_end, is_document_start, is_open, is_stream_end, IsInside, length, length-append, List, load, load_from, Loaded, Loads, no_call, no_document, no_event, None, not, Ok, one_call, one_event, opened, or-true, or_from, Parsed, Position, Pulls, PullsAll, push, PushesNext, pushing, read, Receives, refl, Result, RunsOn, Some, subst, sym, true, ◌&&◌, ◌++◌, ◌+◌, ◌||◌, ◌∙◌, ◌∷◌, ◌≡◌, ◌≢◌}
use Rattle.defs_event.specs.PulledList.{Answer, event, fault, given}
use Rattle.yaml_parser.proofs.Nesting.{no_end_inside, open_more}
use Rattle.defs_event.specs.Push as run
use Rattle.yaml_parser.specs.Loads as loads

-- ---- the run

given_snoc : (es : List (Ev × Position)) (e : Ev) (p : Position) → given ErrorReport (es ++ (e, p) ∷ []) ≡ given ErrorReport es ++ event e p ∷ []
given_snoc [] e p = refl
given_snoc (x ∷ es) e p = ap (λ zs. event x.0 x.1 ∷ zs) (given_snoc es e p)

given_length : (es : List (Ev × Position)) → length (given ErrorReport es) ≡ length es
given_length [] = refl
given_length (e ∷ es) = omega (arith, given_length es)

pushing_snoc : (es : List (Ev × Position)) (e : Ev) (p : Position) (l : Loaded ErrorReport) → pushing (es ++ (e, p) ∷ []) l ≡ pushing es (push e p l)
pushing_snoc [] e p l = refl
pushing_snoc (x ∷ es) e p l = ap (push x.0 x.1) (pushing_snoc es e p l)

-- of the run that pushes these first: what it pushes, how it ends and how many answers it takes
pushing_all : (es : List (Ev × Position)) (l : Loaded ErrorReport) → ((pushing es l).pushed ≡ es ++ l.pushed) × ((pushing es l).ending ≡ l.ending) × ((pushing es l).taken ≡ length es + l.taken)
pushing_all [] l = (refl, refl, omega arith)
pushing_all (e ∷ es) l = let i = pushing_all es l in (ap (λ xs. e ∷ xs) i.0, i.1, omega (arith, i.2))

pub misplaced_run : (e : Ev) (p : Position) (multi : Bool) (rest : List (Answer ErrorReport)) → is_stream_end e ≡ false → is_document_start e ≡ false → load_from run.between multi (event e p ∷ rest) ≡ ends (run.no_document p) 1
misplaced_run e p multi rest h k = grind arith

pub end_run : (e : Ev) (p : Position) (multi : Bool) (rest : List (Answer ErrorReport)) → is_stream_end e ≡ true → load_from run.between multi (event e p ∷ rest) ≡ push e p (ends run.well 0)
end_run e p multi rest h = grind arith

pub start_run : (e : Ev) (p : Position) (multi : Bool) (rest : List (Answer ErrorReport)) → is_document_start e ≡ true → load_from run.between multi (event e p ∷ rest) ≡ push e p (load_from run.inside multi rest)
start_run e p multi rest h = grind arith

pub inside_run : (e : Ev) (p : Position) (multi : Bool) (rest : List (Answer ErrorReport)) → is_document_end e ≡ false → load_from run.inside multi (event e p ∷ rest) ≡ push e p (load_from run.inside multi rest)
inside_run e p multi rest h = grind arith

pub last_run : (e : Ev) (p : Position) (multi : Bool) (rest : List (Answer ErrorReport)) → is_document_end e ≡ true → load_from run.inside multi (event e p ∷ rest) ≡ push e p (after_document multi rest)
last_run e p multi rest h = grind arith

pub end_is_not : (e : Ev) → is_stream_end e ≡ false → e ≢ Ev.stream_end
end_is_not e h k = let no : true ≡ false = sym (ap is_stream_end k) ∙ h in cc

-- a run inside a document that stops after an event
pub inside_stops : (e : Ev) (p : Position) (multi : Bool) → (l : Loaded ErrorReport) × (load_from run.inside multi (event e p ∷ []) ≡ push e p l) × (l.pushed ≡ []) × (l.taken ≡ 0)
inside_stops Ev.document_end p false = (ends run.well 0, refl, refl, refl)
inside_stops e p multi = (ends run.unfinished 0, refl, refl, refl)

going_before : {old new : Parsed} {e : Ev × Position} → GivesEvent old e new → is_stream_end e.0 ≡ false → old.ended ≡ false
going_before {old} {new} {e} g h = false_from_ne_true old.ended (λ b. end_is_not e.0 h (g.over b))

-- After an event that is no end, the end was not given.
pub not_ended : {old new : Parsed} {e : Ev × Position} → GivesEvent old e new → is_stream_end e.0 ≡ false → new.ended ≡ false
not_ended {old} {new} {e} g h = g.ended ∙ or_from old.ended (is_stream_end e.0) (going_before g h) h

-- ---- inside a document

given_more : {old new : Parsed} {e : Ev × Position} → GivesEvent old e new → old.ended ≡ false → new.given ≡ old.given ++ e ∷ []
given_more {old} {new} {e} g h = g.given ∙ ap (λ b. old.given ++ (if b then [] else e ∷ [])) h

-- The stream's end does not come there.
pub no_end : {now new : Parsed} {e : Ev} {p : Position} → IsInside now → GivesEvent now (e, p) new → is_stream_end e ≡ false
no_end {now} {new} {e} {p} i g = false_from_ne_true (is_stream_end e) (λ h.
    let all : read new ≡ now.given ++ (Ev.stream_end, p) ∷ [] = (grind arith) ∙ given_more g i.0 ∙ ap (λ v. now.given ++ (v, p) ∷ []) (grind arith) in
    no_end_inside now.given p i.1 (subst (λ es. BeginsNested (events_of es)) all g.sound.nested))

pub starts_inside : {now new : Parsed} {e : Ev} {p : Position} → GivesEvent now (e, p) new → is_stream_end e ≡ false → is_document_start e ≡ true → IsInside new
starts_inside {now} {new} {e} {p} g end start = (
  not_ended g end,
  ap (λ es. is_open false (events_of es)) (given_more g (going_before g end)) ∙ open_more false now.given e p ∙ ap (λ b. b || (is_open false (events_of now.given) && not (is_document_end e))) start,
)

pub stays_inside : {now new : Parsed} {e : Ev} {p : Position} → IsInside now → GivesEvent now (e, p) new → is_document_end e ≡ false → IsInside new
stays_inside {now} {new} {e} {p} i g last = (
  not_ended g (no_end i g),
  ap (λ es. is_open false (events_of es)) (given_more g i.0) ∙ open_more false now.given e p ∙ ap (opened e) i.1 ∙ ap (λ b. is_document_start e || not b) last ∙ or-true (is_document_start e),
)

-- ---- the steps

module _ {R : Type 0} {takes : R → Ev → Position → Result (Unit {0}) ErrorReport → R → Type 0} {multi : Bool} {old : Parsed} {r : R} where
  pub begins : (at : run.Standing) (s : Bool) → old.started ≡ s → (if s then run.between else run.before_stream) ≡ at → RunsOn takes multi old r at old r
  begins at s h k = record {
    events = [];
    pulled = no_call;
    received = no_event;
    runs = λ rest. ap (λ b. load_from (if b then run.between else run.before_stream) multi rest) h ∙ ap (λ z. load_from z multi rest) k;
  }

  module _ {on : List (Answer ErrorReport) → Loaded ErrorReport} {now now' : Parsed} {s s' : R} where
    -- An event is pulled and taken.
    pub goes_on : {on' : List (Answer ErrorReport) → Loaded ErrorReport} {e : Ev} {p : Position} → Going takes multi old r on now s → ((rest : List (Answer ErrorReport)) → on (event e p ∷ rest) ≡ push e p (on' rest))
        → Pulls now (event e p) now' → takes s e p (Ok tt) s' → Going takes multi old r on' now' s'
    goes_on {on' = on'} {e} {p} g steps pulls took = record {
      events = g.events ++ (e, p) ∷ [];
      pulled = subst (λ xs. PullsAll old xs now') (sym (given_snoc g.events e p)) (one_call (event e p) g.pulled pulls);
      received = one_event e p g.received took;
      runs = λ rest.
          ap (λ xs. load old.started multi (xs ++ rest)) (given_snoc g.events e p)
          ∙ ap (load old.started multi) (append_assoc (given ErrorReport g.events) (event e p ∷ []) rest)
          ∙ g.runs (event e p ∷ rest) ∙ ap (pushing g.events) (steps rest) ∙ sym (pushing_snoc g.events e p (on' rest));
    }

    -- The run ends after one answer more.
    pub stops_after : {new : Parsed} {x : Result (Unit {0}) ErrorReport} (a : Answer ErrorReport) (l : Loaded ErrorReport) (g : Going takes multi old r on now s) → on (a ∷ []) ≡ l → l.taken ≡ 1 → Pulls now a now'
        → ((m : Loaded ErrorReport) → m.ending ≡ l.ending → m.pushed ≡ g.events ++ l.pushed → EndsSo takes r m now' x new s') → Loads takes multi old r x new s'
    stops_after a l g h t pulls so =
        let w : load old.started multi (given ErrorReport g.events ++ a ∷ []) ≡ pushing g.events l = g.runs (a ∷ []) ∙ ap (pushing g.events) h in
        let all = pushing_all g.events l in
        record {
          answers = given ErrorReport g.events ++ a ∷ [];
          after = now';
          pulled = one_call a g.pulled pulls;
          taken = ap (λ x. x.taken) w ∙ all.2 ∙ ap (λ n. length g.events + n) t ∙ sym (length-append (given ErrorReport g.events) (a ∷ []) ∙ ap (λ n. n + 1) (given_length g.events));
          ends = so (load old.started multi (given ErrorReport g.events ++ a ∷ [])) (ap (λ x. x.ending) w ∙ all.1) (ap (λ x. x.pushed) w ∙ all.0);
        }

    -- The receiver refuses an event.
    pub refuses : {e : Ev} {p : Position} {f : ErrorReport} {l : Loaded ErrorReport} → Going takes multi old r on now s → on (event e p ∷ []) ≡ push e p l → l.pushed ≡ [] → l.taken ≡ 0 → Pulls now (event e p) now' → takes s e p (Err f) s' → Loads takes multi old r (Err f) now' s'
    refuses {e = e} {p} {f} {l} g h none nil pulls took =
        stops_after {new = now'} {x = Err f} (event e p) (push e p l) g h (ap (λ n. n + 1) nil) pulls (λ m i q. loads.refused e p (q ∙ ap (λ xs. g.events ++ (e, p) ∷ xs) none) pulls.sound.fault g.received took)

    -- An event is taken, and the call ends well.
    pub ends_well : {e : Ev} {p : Position} → Going takes multi old r on now s → on (event e p ∷ []) ≡ push e p (ends run.well 0) → Pulls now (event e p) now' → takes s e p (Ok tt) s' → Loads takes multi old r (Ok tt) now' s'
    ends_well {e = e} {p} g h pulls took =
        stops_after {new = now'} {x = Ok tt} (event e p) (push {Fault = ErrorReport} e p (ends run.well 0)) g h refl pulls (λ m i q. loads.well i pulls.sound.fault (subst (λ xs. Receives takes r xs s') (sym q) (one_event e p g.received took)))

  module _ {on : List (Answer ErrorReport) → Loaded ErrorReport} {now now' : Parsed} {s : R} (g : Going takes multi old r on now s) where
    pub faults : {f : ErrorReport} → on (fault f ∷ []) ≡ ends (run.faulted f) 1 → Pulls now (fault f) now' → Loads takes multi old r (Err f) now' s
    faults {f = f} h pulls =
        stops_after {s' = s} {new = now'} {x = Err f} (fault f) (ends (run.faulted f) 1) g h refl pulls (λ m i q. loads.faulted i pulls.fault (subst (λ xs. Receives takes r xs s) (sym (q ∙ append-nil g.events)) g.received))

    pub misplaces : {e : Ev} {p : Position} → on (event e p ∷ []) ≡ ends (run.no_document p) 1 → Pulls now (event e p) now' → Loads takes multi old r (Err (no_document p)) (record now' { fault = Some (no_document p) }) s
    misplaces {e = e} {p} h pulls =
        stops_after {s' = s} {new = record now' { fault = Some (no_document p) }} {x = Err (no_document p)} (event e p) (ends (run.no_document p) 1) g h refl pulls (λ m i q. loads.misplaced p i (subst (λ xs. Receives takes r xs s) (sym (q ∙ append-nil g.events)) g.received))

  -- A fault is pulled inside a document, or the receiver refuses an event there.
  pub push_stops : {now now' : Parsed} {s s' : R} {f : ErrorReport} → RunsOn takes multi old r run.inside now s → PushesNext takes now s (Err f) now' s' → Loads takes multi old r (Err f) now' s'
  push_stops {now' = now'} {f = f} g (inl x) = subst (λ z. Loads takes multi old r (Err f) now' z) (sym x.1) (faults g refl x.0)
  push_stops g (inr x) = let l = inside_stops x.0 x.1 multi in refuses g l.1 l.2 l.3 x.2 x.3

  module _ {now : Parsed} {s : R} (g : Going takes multi old r (after_document multi) now s) where
    -- A document was read, and no more is asked for.
    pub one_document : now.fault ≡ None → multi ≡ false → Loads takes multi old r (Ok tt) now s
    one_document clear h =
        let w : load old.started multi (given ErrorReport g.events) ≡ pushing g.events (ends run.well 0) = ap (load old.started multi) (sym (append-nil (given ErrorReport g.events))) ∙ g.runs [] ∙ ap (λ b. pushing g.events (if b then load_from run.between multi [] else ends run.well 0)) h in
        let all = pushing_all g.events (ends run.well 0) in
        record {
          answers = given ErrorReport g.events;
          after = now;
          pulled = g.pulled;
          taken = ap (λ x. x.taken) w ∙ all.2 ∙ omega (arith, given_length g.events);
          ends = loads.well (ap (λ x. x.ending) w ∙ all.1) clear (subst (λ xs. Receives takes r xs s) (sym (ap (λ x. x.pushed) w ∙ all.0 ∙ append-nil g.events)) g.received);
        }

    -- A document was read, and another may come.
    pub next_document : multi ≡ true → RunsOn takes multi old r run.between now s
    next_document h = record {
      events = g.events;
      pulled = g.pulled;
      received = g.received;
      runs = λ rest. g.runs rest ∙ ap (λ b. pushing g.events (if b then load_from run.between multi rest else ends run.well 0)) h;
    }
