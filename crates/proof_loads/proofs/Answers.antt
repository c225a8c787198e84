-- What a load answers of any text, by a parser that is at its start.
use Rattle.proof_loads.proofs.Common.{[], Answer, AnswersText, ap, append-nil, append_assoc, AreFirst, AreSettled, before_stream, BeginsEvents, BeginsPlaced, Blames, Bool, codes, ComesAfter, EndsSo, Err, ErrorReport, Ev, events_of, Explains, false, Foretells, given, has_end, HasEvents, inl, inr, IsAtStart, IsCause, IsDerived, IsFaultOf, IsPlacedStream, IsRefusal, IsStream, length, List, load, load_from, Loads, nested_stream, no_names, no_stream, no_token, None, NoneBegins, Parsed, Position, Raw, raws_of, read, Receives, refl, Result, ScansIn, Some, subst, sym, TextsAreAnswered, Tok, Token, toks, true, wants_memory, whole, without_positions, ℕ, ◌++◌, ◌∙◌, ◌∷◌, ◌≡◌, IsSound, Loaded, Ending, arith, length-append}
use Rattle.proof_loads.proofs.Tests.{by_test}
use Rattle.yaml_parser.specs.Settings.{AreAll}
use Rattle.yaml_parser.proofs.Since.{since_same, names_same}
use Rattle.defs_event.proofs.AllPushed.{all_pushed}
use Rattle.defs_event.proofs.StreamNests.{stream_nests}
use Rattle.proof_loads.proofs.Pulled.{Noted, given_alone, Answered, events, faults, answered, read_given, settings_stay, IsOver, Pushes, pushes, fault_is_reached, end_is_reached, faulted_pushes, PushesAll, ended_within, ended_after, given_append}
use Rattle.proof_loads.proofs.Texts.{first_tokens, foretells_beginning, if_kept}
use Rattle.proof_loads.proofs.StreamEnds.{all_tokens}

-- what a receiver makes of an event at its position: a result, and itself after it
abbrev pub Takes : Type 0 → Type 1
Takes R = R → Ev → Position → Result (Unit {0}) ErrorReport → R → Type 0

derived_steady : {settings : List Bool} {keep_tags : Bool} {tokens : List Token} {raw : List Raw} {events : List (Ev × Position)} → AreAll keep_tags settings → IsDerived settings keep_tags tokens raw events → IsDerived [] keep_tags tokens raw events
derived_steady {settings} {keep_tags} {tokens} {raw} {events} all d = record {
  more_tokens = d.more_tokens;
  more_raw = d.more_raw;
  more_events = d.more_events;
  stream = record {
    says = d.stream.says;
    has_events = sym (since_same settings keep_tags no_names (raw ++ d.more_raw) all) ∙ d.stream.has_events;
    places = d.stream.places;
  };
  named = sym (since_same settings keep_tags no_names raw all) ∙ d.named;
}

pub blames_steady : {f : ErrorReport} {settings : List Bool} {keep_tags : Bool} {tokens : List Token} {events : List (Ev × Position)} → AreAll keep_tags settings → Blames f settings keep_tags tokens events → Blames f [] keep_tags tokens events
blames_steady {f} {settings} {keep_tags} {tokens} {events} all b = record {
  before = b.before;
  last = b.last;
  whole = b.whole;
  raw = b.raw;
  derived = derived_steady all b.derived;
  unnamed = λ ts raw es d named. b.unnamed ts raw es d (since_same settings keep_tags no_names raw all ∙ named);
  problem = b.problem;
  shown = b.shown;
  fits_it = b.fits_it;
  says = b.says;
  cause = subst (λ names. IsCause b.problem names (events_of events) (toks b.before) b.last.tok) (names_same settings keep_tags no_names b.raw all) b.cause;
  stands = b.stands;
  apart = b.apart;
  beside = b.beside;
  none = b.none;
  some = b.some;
}

-- what a call does with these answers
abbrev so : List (Answer ErrorReport) → Loaded ErrorReport
so answers = load_from before_stream true answers

-- ---- after the answers

-- The events of a stream are all pushed.
all_are_pushed : (keep_tags : Bool) (tokens : List Tok) (es : List (Ev × Position)) → IsStream keep_tags tokens (events_of es) → PushesAll (so (given ErrorReport es)) es
all_are_pushed keep_tags tokens es stream =
    let nested = stream_nests keep_tags tokens (events_of es) stream in
    let w = all_pushed ErrorReport nested.0 es (sym nested.1) in
    (ap (λ l. l.pushed) w, ap (λ l. l.ending) w)

-- the same without positions
pub placed_stream : (keep_tags : Bool) (tokens : List Token) (es : List (Ev × Position)) → IsPlacedStream keep_tags tokens es → IsStream keep_tags (toks tokens) (events_of es)
placed_stream keep_tags tokens es s = record { raws = raws_of s.raws; says = without_positions s.says; has_events = s.has_events }

-- The text's tokens are a stream, with its nested events.
pub nested_is_stream : {keep_tags : Bool} {text : List ℕ} {es : List (Ev × Position)} (h : HasEvents keep_tags text es) → IsStream keep_tags (toks h.tokens) (nested_stream h.documents)
nested_is_stream {keep_tags} {text} {es} h = subst (IsStream keep_tags (toks h.tokens)) h.events_are (placed_stream _ _ es h.stream)

-- Events of which more stand after these begin a stream too.
begins_too : (keep_tags : Bool) (tokens : List Token) (es fs : List (Ev × Position)) → BeginsPlaced keep_tags tokens (es ++ fs) → BeginsPlaced keep_tags tokens es
begins_too keep_tags tokens es fs b = record {
  more_tokens = b.more_tokens;
  more_events = fs ++ b.more_events;
  stream = subst (IsPlacedStream keep_tags (tokens ++ b.more_tokens)) (append_assoc es fs b.more_events) b.stream;
}

has_all_events : (text : List ℕ) (p : Parsed) → ScansIn text p.scanner → IsPlacedStream p.keep_tags p.scanner.given p.given → HasEvents p.keep_tags text p.given
has_all_events text p scans s =
    let stream = placed_stream p.keep_tags p.scanner.given p.given s in
    let nested = stream_nests p.keep_tags (toks p.scanner.given) (events_of p.given) stream in
    record {
      tokens = p.scanner.given;
      has = all_tokens text p.scanner.given stream.raws scans.no_nul scans.reached stream.says;
      stream = s;
      documents = nested.0;
      events_are = sym nested.1;
    }

-- ---- faults

-- A parser's fault is one of the text, after the events that were read.
pub record FaultAfter (keep_tags : Bool) (text : List ℕ) (f : ErrorReport) (es : List (Ev × Position)) : Type 0 where
  pub why : IsFaultOf keep_tags text f
  pub after : ComesAfter why es

pub fault_after : (text : List ℕ) (p : Parsed) (f : ErrorReport) → ScansIn text p.scanner → p.steady ≡ true → Explains f p → FaultAfter p.keep_tags text f (read p)
fault_after text p f scans steady why = elim why [
  | inl k ↦ by_test f.memory
      (λ m. record { why = wants_memory (record { memory = m; text = if_kept (λ g. g.memory ≡ true → g.text ≡ codes "out of memory") p.scanner.fault f k.fault scans.wants m }); after = tt })
      (λ m. record {
        why = no_token p.scanner.given (read p) (if_kept (λ g. g.memory ≡ false → AreSettled text p.scanner.given) p.scanner.fault f k.fault (scans.settled (k.settled m)) m) (k.begins steady) (k.so_far steady) (if_kept (λ g. g.memory ≡ false → IsRefusal text g) p.scanner.fault f k.fault scans.refused m);
        after = refl;
      })
  | inr other ↦ elim other [
    | inl wants ↦ record { why = wants_memory wants; after = tt }
    | inr cut ↦ let r = cut.refused steady in record {
      why = no_stream r.before r.last (read p) (subst (AreFirst text) r.tokens (first_tokens text _ scans)) (subst (λ ts. Blames f [] p.keep_tags ts (read p)) r.tokens (blames_steady (cut.steady steady) cut.blames)) r.begins
          (subst (λ ts. NoneBegins p.keep_tags (toks ts)) r.tokens r.none);
      after = refl;
    }
  ]
]

pub fault_of : (text : List ℕ) (p : Parsed) (f : ErrorReport) → ScansIn text p.scanner → p.steady ≡ true → Explains f p → IsFaultOf p.keep_tags text f
fault_of text p f scans steady why = (fault_after text p f scans steady why).why

-- ---- the ends of a call

-- All events were given, and pushed.
record AllGiven (answers : List (Answer ErrorReport)) (p : Parsed) : Type 0 where
  is_whole : IsPlacedStream p.keep_tags p.scanner.given p.given
  pushed : PushesAll (so answers) p.given

-- where no fault came, and an event
module _ (text : List ℕ) (answers : List (Answer ErrorReport)) (p : Parsed) (scans : ScansIn text p.scanner) (steady : p.steady ≡ true) (n : Noted answers p) (ahead : p.ahead ≡ None) (sound : IsSound p) where
  same : read p ≡ p.given
  same = read_given p.given p.ended p.ahead ahead

  ended_all : p.ended ≡ true → AllGiven answers p
  ended_all ended =
      let placed : IsPlacedStream p.keep_tags p.scanner.given p.given = subst (IsPlacedStream p.keep_tags p.scanner.given) same (sound.whole steady (ap has_end same ∙ sym n.ended ∙ ended)).stream in
      record {
        is_whole = placed;
        pushed = ended_after ErrorReport p.given answers n.rest (all_are_pushed p.keep_tags (toks p.scanner.given) p.given (placed_stream _ _ _ placed)) n.answers_are;
      }

  well_all : (so answers).ending ≡ Ending.well → AllGiven answers p
  well_all e = by_test p.ended ended_all (λ going.
      let reached = end_is_reached ErrorReport before_stream p.given (ap (λ bs. (so bs).ending) (sym (given_alone answers p n going)) ∙ e) in
      let ended = n.ended in
      cc)

  -- An event that is no document's start never stands between documents.
  not_misplaced : (q : Position) → (so answers).ending ≡ Ending.no_document q → ⊥
  not_misplaced q e = by_test p.ended (λ ended. let well = (ended_all ended).pushed.1 in cc) (λ going.
      let follows = sound.follows steady in
      let more = follows.begins.more_events in
      let all = read p ++ more in
      let tokens = follows.before ++ follows.begins.more_tokens in
      let pushed = all_are_pushed p.keep_tags (toks tokens) all (placed_stream _ _ _ follows.begins.stream) in
      let are : given ErrorReport all ≡ answers ++ given ErrorReport more =
      cc (given_append ErrorReport (read p) more, same, given_alone answers p n going) in
      let well = (ended_within ErrorReport all answers (given ErrorReport more) pushed are (subst (λ x. IsOver x) (sym e) tt)).1 in
      cc)

  -- What was pushed is a beginning of what was given.
  pushed_first : Pushes (so answers) p.given
  pushed_first = by_test p.ended
      (λ ended. record { left = []; whole = sym (ended_all ended).pushed.0 ∙ sym (append-nil (so answers).pushed) })
      (λ going. subst (λ bs. Pushes (so bs) p.given) (sym (given_alone answers p n going)) (pushes ErrorReport before_stream p.given))

  begins_text : (es : List (Ev × Position)) → (so answers).pushed ≡ es → BeginsEvents p.keep_tags text es
  begins_text es pushed =
      let follows = sound.follows steady in
      let are : read p ≡ es ++ pushed_first.left = same ∙ pushed_first.whole ∙ ap (λ xs. xs ++ pushed_first.left) pushed in
      record {
        before = follows.before;
        last = follows.last;
        first = subst (AreFirst text) follows.tokens (first_tokens text _ scans);
        begins = begins_too p.keep_tags follows.before es pushed_first.left (subst (BeginsPlaced p.keep_tags follows.before) are follows.begins);
        only = subst (λ ts. Foretells p.keep_tags (toks ts) (events_of es)) follows.tokens (foretells_beginning _ _ (read p) es pushed_first.left are follows.only);
      }

never_misplaced : (text : List ℕ) (answers : List (Answer ErrorReport)) (p : Parsed) → ScansIn text p.scanner → p.steady ≡ true → Answered answers p → (q : Position) → (so answers).ending ≡ Ending.no_document q → (so answers).taken ≡ length answers → ⊥
never_misplaced text answers p scans steady (events n clear (inl none)) q e taken = let no : Ending.unfinished ≡ Ending.no_document q = ap (λ bs. (so bs).ending) (sym none) ∙ e in cc
never_misplaced text answers p scans steady (events n clear (inr (ahead, sound))) q e taken = not_misplaced text answers p scans steady n ahead sound q e
never_misplaced text answers p scans steady (faults g first rest are is ahead why) q e taken =
    fault_is_reached ErrorReport before_stream p.given first rest q (ap (λ bs. (so bs).ending) (sym are) ∙ e) (ap (λ bs. (so bs).taken) (sym are) ∙ taken ∙ ap length are)

-- Where a fault is kept after a load: the receiver took the events before it.
pub record FaultTaken {R : Type 0} (takes : Takes R) (keep_tags : Bool) (text : List ℕ) (f : ErrorReport) (r s : R) : Type 0 where
  pub events : List (Ev × Position)
  pub took : Receives takes r events s
  pub why : FaultAfter keep_tags text f events

-- Before a fault all events that were read are pushed.
at_fault : {R : Type 0} {takes : Takes R} {r s : R} {text : List ℕ} (answers : List (Answer ErrorReport)) (p : Parsed) → ScansIn text p.scanner → p.steady ≡ true → Answered answers p
    → (f : ErrorReport) → (so answers).ending ≡ Ending.faulted f → p.fault ≡ Some f → Receives takes r (so answers).pushed s → FaultTaken takes p.keep_tags text f r s
at_fault answers p scans steady (events n clear o) f e kept received = cc
at_fault {text = text} answers p scans steady (faults g first rest are is ahead why) f e kept received =
    let same : g ≡ f = cc in
    let all = ap (λ bs. (so bs).pushed) are ∙ faulted_pushes ErrorReport before_stream p.given f first rest (sym (ap (λ bs. (so bs).ending) are) ∙ e) ∙ sym (read_given p.given p.ended p.ahead ahead) in
    record { events = (so answers).pushed; took = received; why = subst (FaultAfter p.keep_tags text f) (sym all) (fault_after text p f scans steady (subst (λ x. Explains x p) same why)) }

ends_so : {R : Type 0} {takes : Takes R} {r s : R} {text : List ℕ} {result : Result (Unit {0}) ErrorReport} {new : Parsed} (answers : List (Answer ErrorReport)) (p : Parsed)
    → ScansIn text p.scanner → p.steady ≡ true → Answered answers p → (so answers).taken ≡ length answers → EndsSo takes r (so answers) p result new s → AnswersText takes p.keep_tags text r result s
ends_so answers p scans steady (events n clear (inl none)) taken (EndsSo.well e _ received) = let no : Ending.unfinished ≡ Ending.well = ap (λ bs. (so bs).ending) (sym none) ∙ e in cc
ends_so {takes = takes} {r} {s} {text} answers p scans steady (events n clear (inr (ahead, sound))) taken (EndsSo.well e _ received) =
    let all = well_all text answers p scans steady n ahead sound e in
    whole p.given (has_all_events text p scans all.is_whole) (subst (λ es. Receives takes r es s) all.pushed.0 received)
ends_so answers p scans steady (faults f first rest are kept ahead why) taken (EndsSo.well e clear received) = cc
ends_so answers p scans steady a taken (EndsSo.faulted {f = f} e kept received) = let x = at_fault answers p scans steady a f e kept received in AnswersText.faulted x.events x.why.why x.why.after x.took
ends_so {text = text} answers p scans steady a taken (EndsSo.misplaced q e received) = absurd (never_misplaced text answers p scans steady a q e taken)
ends_so answers p scans steady (events n clear (inl none)) taken (EndsSo.refused {es = es} e q pushed _ received takes) =
    absurd (omega (arith, ap length (ap (λ bs. (so bs).pushed) (sym none) ∙ pushed), length-append es ((e, q) ∷ [])))
ends_so {text = text} answers p scans steady (events n clear (inr (ahead, sound))) taken (EndsSo.refused {es = es} e q pushed _ received takes) =
    AnswersText.refused es e q (begins_text text answers p scans steady n ahead sound (es ++ (e, q) ∷ []) pushed) received takes
ends_so answers p scans steady (faults f first rest are kept ahead why) taken (EndsSo.refused e q pushed clear received takes) = cc

fault_ends : {R : Type 0} {takes : Takes R} {r s : R} {text : List ℕ} {f : ErrorReport} {new : Parsed} (answers : List (Answer ErrorReport)) (p : Parsed)
    → ScansIn text p.scanner → p.steady ≡ true → Answered answers p → (so answers).taken ≡ length answers → EndsSo takes r (so answers) p (Err f) new s → new.fault ≡ Some f → FaultTaken takes p.keep_tags text f r s
fault_ends answers p scans steady a taken (EndsSo.faulted {f = f} e kept received) h = at_fault answers p scans steady a f e kept received
fault_ends {text = text} answers p scans steady a taken (EndsSo.misplaced q e received) h = absurd (never_misplaced text answers p scans steady a q e taken)
fault_ends {f = f} answers p scans steady a taken (EndsSo.refused e q pushed clear received takes) h = cc

scanner_stays : {R : Type 0} {takes : Takes R} {r s : R} {l : Loaded ErrorReport} {p new : Parsed} {result : Result (Unit {0}) ErrorReport}
    → EndsSo takes r l p result new s → new.scanner ≡ p.scanner
scanner_stays (EndsSo.misplaced q e received) = refl
scanner_stays e = refl

-- what holds after the answers of a load from the start on
of_load : {R : Type 0} (takes : Takes R) (old new : Parsed) (r s : R) (result : Result (Unit {0}) ErrorReport) (text : List ℕ) (P : Bool → Type 0)
    → IsAtStart old → ScansIn text new.scanner → Loads takes true old r result new s
    → ((answers : List (Answer ErrorReport)) (p : Parsed) → ScansIn text p.scanner → p.steady ≡ true → Answered answers p → (so answers).taken ≡ length answers → EndsSo takes r (so answers) p result new s → P p.keep_tags) → P old.keep_tags
of_load takes old new r s result text P start scans l f =
    let from_start : (load old.started true l.answers) ≡ so l.answers = rw start.started refl in
    let k = settings_stay l.pulled in
    subst P k.keep_tags (f l.answers l.after (subst (ScansIn text) (scanner_stays l.ends) scans) (k.steady ∙ start.steady) (answered start l.pulled) (sym (ap (λ u. u.taken) from_start) ∙ l.taken)
    (subst (λ u. EndsSo takes r u l.after result new s) from_start l.ends))

pub texts_are_answered : {R : Type 0} (takes : Takes R) → TextsAreAnswered takes
texts_are_answered takes old new r s result text start scans l = of_load takes old new r s result text (λ k. AnswersText takes k text r result s) start scans l (λ answers p. ends_so answers p)

pub fault_taken : {R : Type 0} (takes : Takes R) (old new : Parsed) (r s : R) (f : ErrorReport) (text : List ℕ) → IsAtStart old → ScansIn text new.scanner
    → Loads takes true old r (Err f) new s → new.fault ≡ Some f → FaultTaken takes old.keep_tags text f r s
fault_taken takes old new r s f text start scans l kept =
    of_load takes old new r s (Err f) text (λ k. FaultTaken takes k text f r s) start scans l (λ answers p scanned steady a taken ends. fault_ends answers p scanned steady a taken ends kept)
