-- The events of one document, one by one.
use Rattle.yaml_loader.proofs.Common.{[], ap, append-nil, append_assoc, arith, Ended, Err, ErrorReport, Ev, false, Faults, GivesEvent, GivesFault, HasNoEnd, if◌then◌else◌, is_end, is_stream_end, IsGoing, KeepsSettings, List, no_event, Ok, one_event, Parsed, Position, refl, Refuses, Result, sym, TakesAll, true, ◌++◌, ◌||◌, ◌∙◌, ◌∷◌, ◌≡◌, ◌≢◌}
use Rattle.yaml_loader.specs.OneDocument.{Goes}

pub is_not_end : (e : Ev) → is_end e ≡ false → e ≢ Ev.stream_end
is_not_end e h k = let no : true ≡ false = sym (ap is_end k) ∙ h in cc

no_stream_end : (e : Ev) → is_end e ≡ false → is_stream_end e ≡ false
no_stream_end Ev.stream_end h = cc
no_stream_end _ h = refl

pub no_end_more : (es : List (Ev × Position)) (e : Ev) (p : Position) → HasNoEnd es → is_end e ≡ false → HasNoEnd (es ++ (e, p) ∷ [])
no_end_more [] e p h other = (other, tt)
no_end_more (x ∷ es) e p h other = (h.0, no_end_more es e p h.1 other)

pub begins : {R : Type 0} (takes : R → Ev → Position → Result (Unit {0}) ErrorReport → R → Type 0) (p : Parsed) (l : R) → IsGoing p → Goes takes p l p l
begins takes p l h = record {
  events = [];
  no_end = tt;
  given = sym (append-nil p.given);
  going = h;
  settings = record { keep_tags = refl; steady = refl };
  received = no_event;
  left = omega arith;
}

kept : {a b c : Parsed} → KeepsSettings a b → KeepsSettings b c → KeepsSettings a c
kept x y = record { keep_tags = y.keep_tags ∙ x.keep_tags; steady = y.steady ∙ x.steady }

ended_by : {now new : Parsed} {e : Ev × Position} → IsGoing now → GivesEvent now e new → new.ended ≡ is_stream_end e.0
ended_by {now} {new} {e} h g = g.ended ∙ ap (λ b. b || is_stream_end e.0) h.ended

module _ {R : Type 0} {takes : R → Ev → Position → Result (Unit {0}) ErrorReport → R → Type 0} {old now new : Parsed} {r s : R} where
  more_given : {e : Ev} {p : Position} → (g : Goes takes old r now s) → GivesEvent now (e, p) new → new.given ≡ old.given ++ (g.events ++ (e, p) ∷ [])
  more_given {e} {p} g gives =
      gives.given ∙ ap (λ b. now.given ++ (if b then [] else (e, p) ∷ [])) g.going.ended ∙ ap (λ es. es ++ (e, p) ∷ []) g.given ∙ append_assoc old.given g.events ((e, p) ∷ [])

  -- An event is given that is no end, and the receiver takes it.
  pub goes_on : {t : R} {e : Ev} {p : Position} → Goes takes old r now s → GivesEvent now (e, p) new → is_end e ≡ false → takes s e p (Ok tt) t → Goes takes old r new t
  goes_on {e = e} {p} g gives other took =
      let less = gives.left (is_not_end e other) in
      let before = g.left in
      record {
        events = g.events ++ (e, p) ∷ [];
        no_end = no_end_more g.events e p g.no_end other;
        given = more_given g gives;
        going = record { fault = gives.sound.fault; ended = ended_by g.going gives ∙ no_stream_end e other };
        settings = kept g.settings gives.settings;
        received = one_event e p g.received took;
        left = omega (arith, less, before);
      }

  pub came : {e : Ev} {p : Position} → Goes takes old r now s → GivesEvent now (e, p) new → Ended old new
  came {e} {p} g gives = record {
    events = g.events;
    last = e;
    position = p;
    no_end = g.no_end;
    given = more_given g gives;
    ahead = gives.ahead;
    settings = kept g.settings gives.settings;
    sound = gives.sound;
  }

  pub takes_all : {t : R} {e : Ev} {p : Position} → Goes takes old r now s → GivesEvent now (e, p) new → is_end e ≡ true → takes s e p (Ok tt) t → TakesAll takes old r new t
  unfolding came
  takes_all {e = e} {p} g gives end took = record {
    came = came g gives;
    is_end = end;
    ended = ended_by g.going gives;
    received = one_event e p g.received took;
    less = λ h. let less = gives.left h in let before = g.left in omega (arith, less, before);
  }

  -- The parser has a fault.
  pub faults : (f : ErrorReport) → Goes takes old r now s → GivesFault now f new → Faults old f new
  faults f g gives = record {
    events = g.events;
    no_end = g.no_end;
    given = gives.given ∙ g.given;
    settings = kept g.settings gives.settings;
    why = gives.why g.going.fault;
  }

  -- The receiver refuses an event.
  pub refuses : {t : R} {e : Ev} {p : Position} {f : ErrorReport} → Goes takes old r now s → GivesEvent now (e, p) new → takes s e p (Err f) t → Refuses takes old r f new t
  unfolding came
  refuses g gives took = record { came = came g gives; before = s; received = g.received; refuses = took }
