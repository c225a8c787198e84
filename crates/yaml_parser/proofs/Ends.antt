-- The shortest way to the end from each position: so no fault is late.
use Rattle.yaml_parser.proofs.Common.{[], all_shown, ap, append_assoc, At, BeginAt, Bool, both_some, both_ways, Derives, Ev, events_of, false, Faulted, first_may, fits, Goal, goal_of, GoesOn, grammar, IfSome, inl, is_after, is_of_names, is_over, IsCause, IsDerived, IsOfKind, IsPending, IsSettled, Kind, kind_of, last_position, List, map-append, named, Names, names_after, names_by, needs_tokens, next_after, next_at, no_names, None, nowhere, Option, option_map, other_next, peeked_tok, plain_placed, Position, Problem, problem_of, Raw, raws_of, Reader, refl, Refuses, resolved_event, scanned, shown, shown_list, Some, StandsApart, StandsBefore, State, stood, StreamPlaces, StreamSays, subst, sym, taken_toks, to_end, Tok, tok_of, Token, token_at, toks, top, true, with_positions, work_of, ◌++◌, ◌∙◌, ◌∷◌, ◌≡◌, arith}
use Rattle.model_parser.specs.Rest.{placed}
use Rattle.yaml_parser.proofs.Completed.{completed}
use Rattle.model_parser.specs.Stands.{IsNext as Begins1}
use Rattle.yaml_parser.proofs.Steps.{looked, if_some_at}
use Rattle.yaml_parser.proofs.Positions.{stood_over}
use Rattle.yaml_parser.proofs.Since.{since_append}
use Rattle.defs_token.specs.Token as defs
use Rattle.yaml_tokens.specs.declared.problem.Fault.TheVariants as fault

-- ---- what comes of the tokens

pub state_pending : (s : State) (names : Names) → IsPending names (goal_of s)
state_pending s n = grind arith

-- events that were not given, at positions
abbrev at_places : List Ev → List (Raw × Position) → List (Ev × Position)
at_places [] ps = []
at_places (v ∷ vs) [] = []
at_places (v ∷ vs) (p ∷ ps) = (v, p.1) ∷ at_places vs ps

-- as many as there are events before names are resolved
at_all : (keep : Bool) (s : Names) (ps : List (Raw × Position)) (vs : List Ev) → named keep s (raws_of ps) ≡ Some vs → (events_of (at_places vs ps) ≡ vs) × (stood (raws_of ps) (at_places vs ps) ≡ ps)
at_all keep s [] vs h = let x : vs ≡ [] = cc in (ap (λ us. events_of (at_places us [])) x ∙ sym x, refl)
at_all keep s (p ∷ ps) vs h =
    let f = both_some (resolved_event s p.0) (named keep (names_after keep s p.0) (raws_of ps)) vs h in
    let i = at_all keep (names_after keep s p.0) ps f.more f.are_more in
    (ap (λ us. events_of (at_places us (p ∷ ps))) f.whole ∙ ap (λ us. f.event ∷ us) i.0 ∙ sym f.whole, ap (λ us. stood (raws_of (p ∷ ps)) (at_places us (p ∷ ps))) f.whole ∙ ap (λ l. p ∷ l) i.1)

-- tokens that all stand where the one does that was looked at
abbrev place_ahead : Option Token → Position
place_ahead None = nowhere
place_ahead (Some t) = t.0

abbrev all_at : Position → List Tok → List defs.Token
all_at m [] = []
all_at m (t ∷ ts) = record { position = m; tok = t } ∷ all_at m ts

toks_at : (m : Position) (ts : List Tok) → toks (all_at m ts) ≡ ts
toks_at m [] = refl
toks_at m (t ∷ ts) = ap (λ us. t ∷ us) (toks_at m ts)

-- something is still to be read where a token was looked at
begin_ahead : {T : Type 0} (p : Reader T) (g : Goal) (names : Names) (given : List (Ev × Position)) (ts : List Tok) (es : List Raw) → At g p names given → Derives grammar (work_of g p.stack) ts es
    → BeginAt p.tokens.peeked (all_at (place_ahead p.tokens.peeked) ts)
begin_ahead {T} p g names given ts es a d = by p.tokens.peeked refl ts d
  where
    by : (o : Option Token) → p.tokens.peeked ≡ o → (ts : List Tok) → Derives grammar (work_of g p.stack) ts es → BeginAt o (all_at (place_ahead o) ts)
    by None h ts d = tt
    by (Some t) h (u ∷ ts) d = refl
    by (Some t) h [] d = over_or (is_over g) refl
      where
        over_or : (b : Bool) → is_over g ≡ b → ⊥
        over_or true e = let clash : None ≡ Some t = sym (a.over e) ∙ h in cc
        over_or false e = needs_tokens (work_of g p.stack) es (grind arith) d

-- What was given comes of what was taken.
pub at_derived : {T : Type 0} (g : Goal) (p : Reader T) (names : Names) (given : List (Ev × Position)) → (a : At g p names given)
    → IsDerived p.names.keeping.settings.items p.names.keeping.tags (all_shown p.tokens.taken.items) a.raw given
at_derived {T} g p names given a =
    let ks = p.names.keeping.settings.items in
    let keep = p.names.keeping.tags in
    let c = completed g p.stack in
    let es = c.events in
    let us = all_at (place_ahead p.tokens.peeked) c.tokens in
    let n = c.nameable keep names a.pending in
    let x = with_positions c.awaits.0 (last_position p.tokens) (placed (work_of g p.stack)) us (plain_placed (λ e. None) (work_of g p.stack)) (toks_at (place_ahead p.tokens.peeked) c.tokens) in
    let y = at_all keep names x.0 n.0 (ap (named keep names) x.1 ∙ n.1) in
    let more = at_places n.0 x.0 in
    let all = since_append ks keep no_names a.raw es (events_of given) n.0 a.few a.events (ap (λ s. named keep s es) a.names_are ∙ n.1) in
    let may : first_may g p.stack (toks us) ≡ true = ap (first_may g p.stack) (toks_at (place_ahead p.tokens.peeked) c.tokens) ∙ c.awaits.1 in
    record {
      more_tokens = us;
      more_raw = es;
      more_events = more;
      stream = record {
        says = subst (λ vs. StreamSays vs (a.raw ++ es)) (ap (λ vs. taken_toks p.tokens ++ vs) (sym (toks_at (place_ahead p.tokens.peeked) c.tokens)) ∙ sym (map-append (λ (t : defs.Token). t.tok) (all_shown p.tokens.taken.items) us)) (a.stands.sound c.tokens es c.awaits);
        has_events = all ∙ ap (λ vs. Some (events_of given ++ vs)) (sym y.0) ∙ ap Some (sym (map-append (λ (e : Ev × Position). e.0) given more));
        places = subst (λ ps. StreamPlaces (all_shown p.tokens.taken.items ++ us) ps)
            (ap (λ l. stood a.raw given ++ l) (sym y.1 ∙ ap (λ rs. stood rs more) x.1) ∙ sym (stood_over a.raw es given more a.count))
            (a.places to_end us x.0 (begin_ahead p g names given c.tokens es a c.awaits.0) (x.2, may));
      };
      named = a.events;
    }

-- ---- a refused token

handed_with : {T : Type 0} {g : Goal} {p : Reader T} {t : Token} {names : Names} {given : List (Ev × Position)}
    → p.tokens.peeked ≡ Some t → At g p names given → (scanned p.tokens.scanner).given ≡ all_shown p.tokens.taken.items ++ shown t ∷ []
handed_with {T} {g} {p} here a = a.handed ∙ ap (λ o. all_shown p.tokens.taken.items ++ shown_list o) here

-- No stream goes on with it.
never : {T : Type 0} {g : Goal} {p : Reader T} {t : Token} {names : Names} {given : List (Ev × Position)}
    → p.tokens.peeked ≡ Some t → Refuses g p.stack (tok_of t.1) → At g p names given → (ts : List Tok) (es : List Raw) → StreamSays (taken_toks p.tokens ++ (tok_of t.1 ∷ ts)) es → ⊥
never {T} {g} {p} {t} {names} {given} here turn a ts es d =
    let b : Begins1 (peeked_tok p.tokens) (tok_of t.1 ∷ ts) = subst (λ o. Begins1 (option_map (λ (x : Token). tok_of x.1) o) (tok_of t.1 ∷ ts)) (sym here) refl in
    let o = a.stands.exact (tok_of t.1 ∷ ts) es b d in
    turn a.stands.nested a.stands.fits ts o.0 o.2

-- The tokens leave to come what is read here, unless it is a document's end.
abbrev pub IsKnown : {T : Type 0} → Goal → Reader T → Type 0
IsKnown g p = is_after (top g p.stack) ≡ false → next_after other_next (taken_toks p.tokens) ≡ next_at g p.stack

-- So it is where the next token is refused.
known : {T : Type 0} {g : Goal} {p : Reader T} {t : Token} {names : Names} {given : List (Ev × Position)}
    → p.tokens.peeked ≡ Some t → Refuses g p.stack (tok_of t.1) → At g p names given → IsKnown g p
known {T} {g} {p} {t} here turn a not_after =
    let none : GoesOn (taken_toks p.tokens) (Some (tok_of t.1)) → ⊥ = λ k. never here turn a k.0 k.1 k.2 in
    let s = subst (λ o. IsSettled g p.stack (taken_toks p.tokens) (option_map (λ (x : Token). tok_of x.1) o)) here a.stands.settled in
    grind arith

-- No stream begins with the tokens up to it.
cut : {T : Type 0} {g : Goal} {p : Reader T} {t : Token} {names : Names} {given : List (Ev × Position)}
    → p.tokens.peeked ≡ Some t → Refuses g p.stack (tok_of t.1) → At g p names given
    → (ts : List Tok) (es : List Raw) → StreamSays (toks (scanned p.tokens.scanner).given ++ ts) es → ⊥
cut {T} {g} {p} {t} {names} {given} here turn a ts es d =
    let h : toks (scanned p.tokens.scanner).given ++ ts ≡ taken_toks p.tokens ++ (tok_of t.1 ∷ ts) =
    ap (λ xs. toks xs ++ ts) (handed_with here a) ∙ ap (λ xs. xs ++ ts) (map-append (λ (x : defs.Token). x.tok) (all_shown p.tokens.taken.items) (shown t ∷ [])) ∙ append_assoc (taken_toks p.tokens) (tok_of t.1 ∷ []) ts in
    never here turn a ts es (subst (λ us. StreamSays us es) h d)

-- What stands beside a refused token, and at its place.
abbrev pub StandsBeside : {T : Type 0} {g : Goal} {p : Reader T} {names : Names} {given : List (Ev × Position)} → Problem → At g p names given → Type 0
StandsBeside {T} {g} {p} {names} {given} q a =
    StandsApart q (taken_toks p.tokens) a.raw × ((m : Position) → ((x : Tok) → BeginAt p.tokens.peeked (token_at m x ∷ [])) → StandsBefore q (all_shown p.tokens.taken.items) m (stood a.raw given))

pub at_peeked : {o : Option Token} {t : Token} → o ≡ Some t → (x : Tok) → BeginAt o (token_at t.0 x ∷ [])
at_peeked {o} {t} here x = subst (λ q. BeginAt q (token_at t.0 x ∷ [])) (sym here) refl

-- the problem has no cause but that the grammar goes on with no such token
abbrev pub HasNoCause : Problem → Type 0
HasNoCause q = (names : Names) (events : List Ev) (before : List Tok) (last : Tok) → IsCause q names events before last

-- The tokens before it say that this is the problem of a token of that kind.
abbrev pub Says : {T : Type 0} → Problem → Kind → Goal → Reader T → Names → List (Ev × Position) → Type 0
Says q k g p names given = At g p names given → IsKnown g p → (t : Tok) → peeked_tok p.tokens ≡ Some t → kind_of t ≡ k → q ≡ problem_of (taken_toks p.tokens) t

-- A token of this kind is refused, for a problem that fits it and is not of names, at its position.
pub refuses_for : {T : Type 0} {g : Goal} {p : Reader T} {k : Kind} {m : Position} {names : Names} {given : List (Ev × Position)} (q : Problem)
    → is_of_names q ≡ false → fits q k ≡ true → IfSome p.tokens.peeked (λ t. t.0 ≡ m) → IsOfKind k p.tokens.peeked → ((t : Tok) → kind_of t ≡ k → Refuses g p.stack t)
    → ((a : At g p names given) (t : Tok) → kind_of t ≡ k → IsCause q (names_by p.names.keeping a.raw) (events_of given) (taken_toks p.tokens) t)
    → ((a : At g p names given) → (taken_toks p.tokens ≡ [] → ⊥) → IsKnown g p → StandsBeside q a) → Says q k g p names given → At g p names given
    → Faulted p given (Some (fault.At q m))
refuses_for {T} {g} {p} {k} {m} {names} {given} q free fit mark o turn cause apart says a =
    let l = looked k p.tokens.peeked o in
    let t = l.0 in
    let no = turn (tok_of t.1) l.2 in
    record {
      blames = record {
        before = all_shown p.tokens.taken.items;
        last = shown t;
        whole = handed_with l.1 a;
        raw = a.raw;
        derived = at_derived g p names given a;
        unnamed = λ ts raw es d named. cut l.1 no a ts raw d;
        problem = q;
        shown = refl;
        fits_it = ap (fits q) l.2 ∙ fit;
        says = λ e. says a (known l.1 no a) (tok_of t.1) (ap (option_map (λ (x : Token). tok_of x.1)) l.1) l.2;
        apart = λ more. (apart a more (known l.1 no a)).0;
        beside = λ more. (apart a more (known l.1 no a)).1 t.0 (at_peeked l.1);
        cause = cause a (tok_of t.1) l.2;
        stands = inl (sym (if_some_at (λ (x : Token). x.0 ≡ m) mark l.1), λ e. absurd (both_ways (is_of_names q) free (ap is_of_names e)));
        none = λ e. cut l.1 no a;
        some = λ e. absurd (both_ways (is_of_names q) free e);
      };
    }

-- the same where the grammar is the only cause
pub refuses : {T : Type 0} {g : Goal} {p : Reader T} {k : Kind} {m : Position} {names : Names} {given : List (Ev × Position)} (q : Problem)
    → is_of_names q ≡ false → fits q k ≡ true → IfSome p.tokens.peeked (λ t. t.0 ≡ m) → IsOfKind k p.tokens.peeked → ((t : Tok) → kind_of t ≡ k → Refuses g p.stack t) → HasNoCause q → ((a : At g p names given) → IsKnown g p → StandsBeside q a) → Says q k g p names given → At g p names given
    → Faulted p given (Some (fault.At q m))
refuses q free fit mark o turn none apart says a = refuses_for q free fit mark o turn (λ b t h. none _ _ _ t) (λ b h. apart b) says a
