-- A look at the next token that fails: of the events that the tokens make certain only one may be missing.
use Rattle.yaml_parser.proofs.Arms.{fails}
use Rattle.yaml_parser.proofs.Common.{arith, GoesApart, ◌||◌, [], all_shown, ap, append-nil, append_assoc, At, BeginAt, Ev, false, Faulted, Goal, is_done, is_idle, is_over, is_pair_end, EventSlot, Stops, IsAwake, IsDerived, IsHalted, IsHanded, IsOnTrack, IsOpen, IsStopped, last_position, List, map-append, Names, None, Option, or_parts, peeked_tok, perhaps, Places, Position, Raw, Reader, refl, scanned, shown_list, Some, State, stood, StreamPlacesTo, StreamSays, subst, sym, taken_toks, to_next, Tok, Token, toks, wants_token, work_of, ◌++◌, ◌∙◌, ◌∷◌, ◌≡◌}
use Rattle.model_parser.specs.Rest.{placed}
use Rattle.yaml_parser.proofs.Steps.{look_peeked, begins_peeked}
use Rattle.yaml_parser.proofs.Ends.{at_derived}
use Rattle.yaml_parser.proofs.Ways.{apart, opens}
use Rattle.defs_token.specs.Token as defs

-- Two events may come after these.
open_by : {two : Tok × Tok} {ts : List Tok} {raw : List Raw} → GoesApart two ts raw → IsOpen ts raw
open_by {two} x = record {
  event = x.event;
  other_event = x.other_event;
  one = record { more_tokens = two.0 ∷ x.one.more_tokens; more_events = x.one.more_events; says = x.one.says };
  other = record { more_tokens = two.1 ∷ x.other.more_tokens; more_events = x.other.more_events; says = x.other.says };
  two_events = x.two_events;
}

-- ---- a look that fails

-- The next token is wanted.
wants_next : (g : Goal) (ss : List State) (b : Option Position) → is_idle g ≡ false → Places to_next b (placed (work_of g ss)) [] []
wants_next g ss b h = grind (arith, wants_token)

-- None was looked at before.
nothing_ahead : (o q : Option Token) → ((t : Token) → o ≡ Some t → q ≡ Some t) → q ≡ None → o ≡ None
nothing_ahead o q f h = grind arith

-- What the events are, where a look at the next token fails.
halted : {T : Type 0} (p r : Reader T) {g : Goal} {names : Names} {given : List (Ev × Position)} → r.tokens.taken ≡ p.tokens.taken → ((t : Token) → p.tokens.peeked ≡ Some t → r.tokens.peeked ≡ Some t) → r.tokens.peeked ≡ None → IsHanded r.tokens → r.names ≡ p.names
    → is_idle g ≡ false → At g p names given → IsHalted r.names.keeping.settings.items r.names.keeping.tags (scanned r.tokens.scanner).given given
halted {T} p r {g} {names} {given} taken same none handed names_same busy a =
    let o = opens g p.stack busy in
    let stands : IsOnTrack g p.stack (taken_toks p.tokens) (peeked_tok r.tokens) a.raw = look_peeked g p.stack (taken_toks p.tokens) p.tokens.peeked r.tokens.peeked a.raw same a.stands in
    let all : (scanned r.tokens.scanner).given ≡ all_shown p.tokens.taken.items ++ shown_list r.tokens.peeked = handed ∙ ap (λ x. all_shown x.items ++ shown_list r.tokens.peeked) taken in
    let took : (scanned r.tokens.scanner).given ≡ all_shown p.tokens.taken.items = all ∙ ap (λ x. all_shown p.tokens.taken.items ++ shown_list x) none ∙ append-nil (all_shown p.tokens.taken.items) in
    record {
      raw = a.raw;
      derived = subst (λ ts. IsDerived r.names.keeping.settings.items r.names.keeping.tags ts a.raw given) (sym took)
          (subst (λ n. IsDerived n.keeping.settings.items n.keeping.tags (all_shown p.tokens.taken.items) a.raw given) (sym names_same) (at_derived g p names given a));
      so_far = subst (λ ts. StreamPlacesTo to_next ts (stood a.raw given)) (append-nil (all_shown p.tokens.taken.items) ∙ sym took)
          (subst (StreamPlacesTo to_next (all_shown p.tokens.taken.items ++ [])) (append-nil (stood a.raw given))
          (a.places to_next [] [] (subst (λ o. BeginAt o []) (sym (nothing_ahead p.tokens.peeked r.tokens.peeked same none)) tt) (wants_next g p.stack (last_position p.tokens) busy, refl)));
      missing = o.missing;
      waits = o.waits;
      certain = λ ts fs d.
          let k : toks (scanned r.tokens.scanner).given ++ ts ≡ taken_toks p.tokens ++ (toks (shown_list r.tokens.peeked) ++ ts) =
          ap (λ xs. toks xs ++ ts) all ∙ ap (λ xs. xs ++ ts) (map-append (λ (x : defs.Token). x.tok) (all_shown p.tokens.taken.items) (shown_list r.tokens.peeked)) ∙ append_assoc (taken_toks p.tokens) (toks (shown_list r.tokens.peeked)) ts in
          let u = stands.exact (toks (shown_list r.tokens.peeked) ++ ts) fs (begins_peeked r.tokens.peeked ts) (subst (λ us. StreamSays us fs) k d) in
          let v = o.certain (toks (shown_list r.tokens.peeked) ++ ts) u.0 u.2 in
          (v.0, u.1 ∙ ap (λ es. a.raw ++ es) v.1 ∙ sym (append_assoc a.raw (perhaps o.missing) v.0));
      goes_on = subst (λ ts. IsOpen (toks ts) (a.raw ++ perhaps o.missing)) (sym took) (open_by (apart o a));
    }

pub look_fails : {T : Type 0} (p r : Reader T) {slot : EventSlot} → r.tokens.taken ≡ p.tokens.taken → ((t : Token) → p.tokens.peeked ≡ Some t → r.tokens.peeked ≡ Some t) → r.tokens.peeked ≡ None → (IsHanded p.tokens → IsHanded r.tokens) → r.names ≡ p.names
    → slot.fault ≡ None → (IsAwake p.tokens → IsStopped (scanned r.tokens.scanner)) → (g : Goal) → is_idle g ≡ false → Stops g p r slot
look_fails {T} p r {slot} taken same none handed names_same e h = λ g busy result is. record {
  so = λ names given a.
      let k = h (a.awake (or_parts (is_over g) (is_done g || is_pair_end g) busy).0) in
      fails r given result slot is (subst (Faulted r given) (sym e) (k, halted p r taken same none (handed a.handed) names_same busy a));
}
