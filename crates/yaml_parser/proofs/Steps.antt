-- The turns over the code's state.
use Rattle.yaml_parser.proofs.Common.{map-append, [], all_shown, ap, append-nil, arith, At, BeginAt, Bool, both, both_ways, Ev, events_of, false, Goal, IfSome, is_end, is_over, IsAt, IsAwake, IsHanded, IsNamed, IsNext, IsOfKind, IsOnTrack, IsPastColon, IsPending, Kind, kind_of, last_position, Leaves, length, length-append, List, looks, named, named_by, Names, names_after, names_at, names_by, no_names, None, nowhere, Option, option_map, or_parts, peeked_tok, Position, Raw, Reader, refl, resolved_event, shown, shown_list, Skips, Some, State, stood, subst, sym, taken_toks, Takes, Tok, tok_of, Token, Tokens, toks, top, ◌++◌, ◌||◌, ◌∙◌, ◌∷◌, ◌≡◌, ◌≤◌, then_event, event_at, append_assoc, AwaitsAt, Extent, IsAtFirst, IsFor, IsNested, IsThere, StreamPlacesTo, IsPlaced, IsTold, ◌+◌}
use Rattle.model_parser.proofs.Standing.{stands_take, stands_leave}
use Rattle.yaml_parser.specs.Handed.{ends}
use Rattle.yaml_parser.proofs.Positions.{behind_more, stood_over}
use Rattle.yaml_parser.proofs.Since.{since_append, since_after}
use Rattle.defs_token.specs.Token as defs

-- ---- where the events stand that were given, one turn more

-- What is awaited completes the tokens that were taken, with the events that were given, each at its position.
abbrev pub StandsSo : List defs.Token → Option Token → Option Position → Goal → List State → List (Raw × Position) → Type 0
StandsSo taken peeked b g ss stands = (x : Extent) (ts : List defs.Token) (es : List (Raw × Position)) → BeginAt peeked ts → AwaitsAt x b g ss ts es → StreamPlacesTo x (taken ++ ts) (stands ++ es)

event_over : (stands : List (Raw × Position)) (e : Option Raw) (m : Position) (es : List (Raw × Position)) → stands ++ event_at e m es ≡ (stands ++ event_at e m []) ++ es
event_over stands None m es = ap (λ l. l ++ es) (sym (append-nil stands))
event_over stands (Some e) m es = sym (append_assoc stands ((e, m) ∷ []) es)

-- A token is taken, and an event is given or none,
pub placed_took : {g g' : Goal} {ss ss' : List State} (t : Token) {e : Option Raw} {b : Option Position} (taken : List defs.Token) (stands stands' : List (Raw × Position)) (m : Position)
    → Takes g ss (tok_of t.1) e g' ss' → IsFor g ss → IsAt b (shown t) e m → stands' ≡ stands ++ event_at e m []
    → StandsSo taken (Some t) b g ss stands → StandsSo (taken ++ shown t ∷ []) None (Some t.0) g' ss' stands'
placed_took t {e = e} {b = b} taken stands stands' m turn fits at more f = λ x ts es begins a.
    subst (λ us. StreamPlacesTo x us (stands' ++ es)) (sym (append_assoc taken (shown t ∷ []) ts))
    (subst (λ xs. StreamPlacesTo x (taken ++ shown t ∷ ts) xs) (event_over stands e m es ∙ ap (λ l. l ++ es) (sym more)) (f x (shown t ∷ ts) (event_at e m es) refl (turn.places fits x b (shown t) m refl at ts es a)))

is_there : (peeked : Option Token) (ts : List defs.Token) → BeginAt peeked ts → IsThere (option_map (λ (t : Token). tok_of t.1) peeked) ts
is_there peeked ts h = grind arith

-- or the token stays.
pub placed_left : {g g' : Goal} {ss ss' : List State} {o : Option Tok} (peeked : Option Token) {e : Option Raw} {b : Option Position} (taken : List defs.Token) (stands stands' : List (Raw × Position)) (m : Position) → option_map (λ (t : Token). tok_of t.1) peeked ≡ o
    → Leaves g ss o e g' ss' → IsNested ss → IsFor g ss → ((k : defs.Token) → BeginAt peeked (k ∷ []) → IsAt b k e m) → stands' ≡ stands ++ event_at e m []
    → StandsSo taken peeked b g ss stands → StandsSo taken peeked b g' ss' stands'
placed_left peeked {e = e} {b = b} taken stands stands' m here turn nested fits at more f = λ x ts es begins a.
    subst (λ xs. StreamPlacesTo x (taken ++ ts) xs) (event_over stands e m es ∙ ap (λ l. l ++ es) (sym more)) (f x ts (event_at e m es) begins (turn.places nested fits x b m ts (subst (λ q. IsThere q ts) here (is_there peeked ts begins)) (first peeked ts begins at) es a))
  where
    first : (p : Option Token) (ts : List defs.Token) → BeginAt p ts → ((k : defs.Token) → BeginAt p (k ∷ []) → IsAt b k e m) → IsAtFirst b ts e m
    first p [] h at = tt
    first None (k ∷ ts) h at = at k tt
    first (Some t) (k ∷ ts) h at = at k h

-- ---- lists

pub taken_snoc : (ts : List Token) (t : Token) → toks (all_shown (ts ++ t ∷ [])) ≡ toks (all_shown ts) ++ tok_of t.1 ∷ []
taken_snoc ts t = ap toks (map-append shown ts (t ∷ [])) ∙ map-append (λ (x : defs.Token). x.tok) (all_shown ts) (shown t ∷ [])

-- ---- tokens

pub looked : (k : Kind) (o : Option Token) → IsOfKind k o → (t : Token) × (o ≡ Some t) × (kind_of (tok_of t.1) ≡ k)
looked k None h = absurd h
looked k (Some t) h = (t, refl, h)

-- after a token was taken
skipped : {T : Type 0} {g : Goal} {ss : List State} {given : List (Ev × Position)} {raw : List Raw} {p : Tokens T} {t : Token} (q : Tokens T) → Skips p t q
    → IsPlaced g ss (record { scanner = p.scanner; peeked = None; taken = record (q.taken) { items = p.taken.items ++ t ∷ [] } }) given raw → IsPlaced g ss q given raw
skipped {g = g} {ss} {given} {raw} {p} q s a =
    let one = subst (λ xs. IsPlaced g ss (record { scanner = p.scanner; peeked = None; taken = record (q.taken) { items = xs } }) given raw) (sym s.taken) a in
    let two = subst (λ o. IsPlaced g ss (record { scanner = p.scanner; peeked = o; taken = q.taken }) given raw) (sym s.peeked) one in
    subst (λ x. IsPlaced g ss (record { scanner = x; peeked = q.peeked; taken = q.taken }) given raw) (sym s.scanner) two

-- ---- one turn

-- An event is given, and these names are after it.
pub record Named {T : Type 0} (p r : Reader T) (g' : Goal) (names : Names) (e : Raw) (v : Ev) (names' : Names) : Type 0 where
  pub resolves : resolved_event names e ≡ Some v
  pub after_it : names_after p.names.keeping.tags names e ≡ names'
  pub keep : r.names.keeping ≡ p.names.keeping
  pub code : IsNamed r.names (names_at r.names.keeping.tags g' names')
  pub pending : IsPending names' g'

-- What a turn gives, an event or none, and the names after it.
pub record Gave {T : Type 0} (m : Position) {g : Goal} {p : Reader T} {names : Names} {given : List (Ev × Position)} (a : At g p names given) (r : Reader T) (g' : Goal) (e : Option Raw) (names' : Names) (given' : List (Ev × Position)) : Type 0 where
  pub told : IsTold g' r.names names' given' (then_event a.raw e)
  pub stands : stood (then_event a.raw e) given' ≡ stood a.raw given ++ event_at e m []

pub gave : {T : Type 0} (m : Position) {g g' : Goal} {p r : Reader T} {names names' : Names} {e : Raw} {v : Ev} {given : List (Ev × Position)}
    → Named p r g' names e v names' → (a : At g p names given) → Gave m a r g' (Some e) names' (given ++ (v, m) ∷ [])
gave m {p = p} {r} {e = e} {v} {given} n a =
    let k = p.names.keeping in
    let items = k.settings.items in
    let last : named k.tags (names_by k a.raw) (e ∷ []) ≡ Some (v ∷ []) = ap (λ o. both o (Some [])) (ap (λ s. resolved_event s e) a.names_are ∙ n.resolves) in
    let few : length items ≤ length (a.raw ++ e ∷ []) = omega (arith, a.few, length-append a.raw (e ∷ [])) in
    record {
      told = record {
        count = length-append a.raw (e ∷ []) ∙ ap (λ n. n + 1) a.count ∙ sym (length-append given ((v, m) ∷ []));
        few = rw n.keep few;
        events = ap (λ j. named_by j (a.raw ++ e ∷ [])) n.keep ∙ since_append items k.tags no_names a.raw (e ∷ []) (events_of given) (v ∷ []) a.few a.events last
            ∙ ap Some (sym (map-append (λ (x : Ev × Position). x.0) given ((v, m) ∷ [])));
        names_are = ap (λ j. names_by j (a.raw ++ e ∷ [])) n.keep ∙ since_after items k.tags no_names a.raw e a.few ∙ ap (λ s. names_after k.tags s e) a.names_are ∙ n.after_it;
        code = n.code;
        pending = n.pending;
      };
      stands = stood_over a.raw (e ∷ []) given ((v, m) ∷ []) a.count;
    }

pub gave_none : {T : Type 0} {g g' : Goal} {p r : Reader T} {names : Names} {given : List (Ev × Position)} → r.names.keeping ≡ p.names.keeping → IsNamed r.names (names_at r.names.keeping.tags g' names) → IsPending names g'
    → (a : At g p names given) → Gave nowhere a r g' None names given
gave_none {p = p} {r} {given = given} keep code pending a =
    let few : length r.names.keeping.settings.items ≤ length a.raw = rw keep a.few in
    assumption (few, sym (append-nil (stood a.raw given)), ap (λ k. named_by k a.raw) keep ∙ a.events, ap (λ k. names_by k a.raw) keep ∙ a.names_are, code, pending, a.count)

-- The token is taken.
pub took : {T : Type 0} {m : Position} {g g' : Goal} {p r : Reader T} {t : Token} {ss' : List State} {e : Option Raw} {names names' : Names} {given given' : List (Ev × Position)}
    → p.tokens.peeked ≡ Some t → Skips p.tokens t r.tokens → r.stack ≡ ss' → Takes g p.stack (tok_of t.1) e g' ss' → (a : At g p names given) → Gave m a r g' e names' given'
    → (is_over g' ≡ false → (is_over g ≡ false) × (is_end (tok_of t.1) ≡ false)) → IsAt (last_position p.tokens) (shown t) e m → IsPastColon (top g' ss') (Some t.0) → At g' r names' given'
took {m = m} {g} {g'} {p} {r} {t} {ss'} {e} {given = given} {given'} here s to turn a y wakes spot past =
    let items = p.tokens.taken.items in
    let after = behind_more items t (items ++ t ∷ []) refl in
    let stands = stood (then_event a.raw e) given' in
    record {
      raw = then_event a.raw e;
      place = rw to (skipped r.tokens s (record {
        stands = subst (λ ts. IsOnTrack g' ss' ts None (then_event a.raw e)) (sym (taken_snoc items t))
            (stands_take g p.stack (tok_of t.1) e g' ss' (taken_toks p.tokens) a.raw turn (subst (λ o. IsOnTrack g p.stack (taken_toks p.tokens) (option_map (λ (x : Token). tok_of x.1) o) a.raw) here a.stands));
        handed = a.handed ∙ ap (λ o. all_shown items ++ shown_list o) here ∙ sym (map-append shown items (t ∷ [])) ∙ sym (append-nil (all_shown (items ++ t ∷ [])));
        awake = λ o. let w = wakes o in let b = a.awake w.0 in (b.0 ∙ ap ends here ∙ w.1, b.1);
        over = λ o. refl;
        places = subst (λ b. StandsSo (all_shown (items ++ t ∷ [])) None b g' ss' stands) (sym after) (subst (λ ts. StandsSo ts None (Some t.0) g' ss' stands) (sym (map-append shown items (t ∷ [])))
            (placed_took t (all_shown items) (stood a.raw given) stands m turn a.stands.fits spot y.stands (subst (λ o. StandsSo (all_shown items) o (last_position p.tokens) g p.stack (stood a.raw given)) here a.places)));
        colon = subst (IsPastColon (top g' ss')) (sym after) past;
      }));
      told = y.told;
    }

-- whether a step over no token leads from or to where nothing is read
abbrev pub breaks : Goal → Goal → Bool
breaks g g' = is_over g || is_over g'

-- The token stays.
pub left : {T : Type 0} {m : Position} {g g' : Goal} {p r : Reader T} {o : Option Tok} {ss' : List State} {e : Option Raw} {names names' : Names} {given given' : List (Ev × Position)}
    → peeked_tok p.tokens ≡ o → r.tokens ≡ p.tokens → r.stack ≡ ss' → Leaves g p.stack o e g' ss' → (a : At g p names given) → Gave m a r g' e names' given'
    → breaks g g' ≡ false → ((k : defs.Token) → BeginAt p.tokens.peeked (k ∷ []) → IsAt (last_position p.tokens) k e m) → IsPastColon (top g' ss') (last_position p.tokens) → At g' r names' given'
left {m = m} {g} {g'} {p} {r} {o} {ss'} {e} {given = given} {given'} here same to turn a y wakes spot past =
    record {
      raw = then_event a.raw e;
      place = rw (to, same) (record {
        stands = subst (λ x. IsOnTrack g' ss' (taken_toks p.tokens) x (then_event a.raw e)) (sym here)
            (stands_leave g p.stack o e g' ss' (taken_toks p.tokens) a.raw turn (subst (λ x. IsOnTrack g p.stack (taken_toks p.tokens) x a.raw) here a.stands));
        handed = a.handed;
        awake = λ w. a.awake (or_parts (is_over g) (is_over g') wakes).0;
        over = λ w. absurd (both_ways (is_over g') (or_parts (is_over g) (is_over g') wakes).1 w);
        places = placed_left p.tokens.peeked (all_shown p.tokens.taken.items) (stood a.raw given) (stood (then_event a.raw e) given') m here turn a.stands.nested a.stands.fits spot y.stands a.places;
        colon = past;
      });
      told = y.told;
    }

-- ---- a look

pub look_peeked : (g : Goal) (ss : List State) (taken : List Tok) (o q : Option Token) (raw : List Raw) → ((t : Token) → o ≡ Some t → q ≡ Some t)
    → IsOnTrack g ss taken (option_map (λ (x : Token). tok_of x.1) o) raw → IsOnTrack g ss taken (option_map (λ (x : Token). tok_of x.1) q) raw
look_peeked g ss taken None q raw f s = looks _ s
look_peeked g ss taken (Some t) q raw f s = subst (λ x. IsOnTrack g ss taken (option_map (λ (y : Token). tok_of y.1) x) raw) (sym (f t refl)) s

-- what begins where the token stands that is looked at now, begins where that stood which was looked at before
begins_before : (o q : Option Token) → ((t : Token) → o ≡ Some t → q ≡ Some t) → (ts : List defs.Token) → BeginAt q ts → BeginAt o ts
begins_before o q f ts h = grind arith

-- the next token is the one that was looked at, where one was
pub begins_peeked : (o : Option Token) (ts : List Tok) → IsNext (option_map (λ (t : Token). tok_of t.1) o) (toks (shown_list o) ++ ts)
begins_peeked o ts = grind arith

pub looks_on : {T : Type 0} {p r : Reader T} → r.tokens.taken ≡ p.tokens.taken → ((t : Token) → p.tokens.peeked ≡ Some t → r.tokens.peeked ≡ Some t) → (IsHanded p.tokens → IsHanded r.tokens) → (IsAwake p.tokens → IsAwake r.tokens)
    → r.stack ≡ p.stack → r.names ≡ p.names → {g : Goal} {names : Names} {given : List (Ev × Position)} → is_over g ≡ false → At g p names given → At g r names given
looks_on {T} {p} {r} taken same handed awake stack names_same {g} {names} {given} going a =
    let items : r.tokens.taken.items ≡ p.tokens.taken.items = ap (λ x. x.items) taken in
    record {
      raw = a.raw;
      place = rw stack (record {
        stands = rw items (look_peeked g p.stack (taken_toks p.tokens) p.tokens.peeked r.tokens.peeked a.raw same a.stands);
        handed = handed a.handed;
        awake = λ o. awake (a.awake o);
        over = λ o. absurd (both_ways (is_over g) going o);
        places = rw items (λ x ts es h y. a.places x ts es (begins_before p.tokens.peeked r.tokens.peeked same ts h) y);
        colon = rw items a.colon;
      });
      told = rw names_same a.told;
    }

pub if_some_at : {A : Type 0} (P : A → Type 0) {o : Option A} → IfSome o P → {x : A} → o ≡ Some x → P x
if_some_at {A} P {o} h {x} e = subst (λ y. IfSome y P) e h
