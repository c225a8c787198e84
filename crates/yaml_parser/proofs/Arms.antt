-- The arms of the productions.
use Rattle.yaml_parser.proofs.Common.{IsRightAfter, arith, [], answered, Answers, ap, At, BeginAt, Err, Ev, Event, EventSlot, false, Faulted, Goal, goal_after_event, HasNoText, IfSome, is_end, is_over, is_under, IsAt, IsErrAnd, IsErr, is_err, Reads, IsNamed, IsOfKind, IsPastColon, IsPending, Kind, kind_of, last_position, Leaves, List, Names, names_after, names_at, None, Ok, OnErr, Option, option_map, peeked_tok, placed, Position, position_at, Raw, Reader, refl, resolved_event, Result, shown, Skips, Some, State, Stayed, Fault, subst, sym, Takes, Tok, tok_is, tok_of, tok_of_kind, Token, Took, top, true, ◌++◌, ◌∙◌, ◌∷◌, ◌≡◌, ◌≢◌, flow_turns, unwrap_or}
use Rattle.yaml_parser.proofs.Positions.{behind_more}
use Rattle.yaml_parser.specs.At.{start_after}
use Rattle.yaml_parser.proofs.Steps.{looked, took, left, Named, breaks, if_some_at, gave, gave_none}
use Rattle.defs_token.specs.Token as defs
use Rattle.model_parser.specs.declared.kind.Kind.TheVariants as kind

-- the token at hand is taken, and this is what there is after it
abbrev pub Skipped : {T : Type 0} → Reader T → Reader T → List State → Type 0
Skipped p r ss = (t : Token) → p.tokens.peeked ≡ Some t → Took p t r ss

pub push_after : {T : Type 0} {p q r : Reader T} {s : State} {ss : List State} → Skipped p q ss → Stayed q r (s ∷ q.stack) → Skipped p r (s ∷ ss)
push_after {T} {p} {q} {r} {s} {ss} k y = λ t h. let x = k t h in record {
  tokens = subst (λ u. Skips p.tokens t u) (sym y.tokens) x.tokens;
  stack = y.stack ∙ ap (λ zs. s ∷ zs) x.stack;
  names = y.names ∙ x.names;
}

pub stay_push : {T : Type 0} {p q r : Reader T} {s : State} {ss : List State} → Stayed p q ss → Stayed q r (s ∷ q.stack) → Stayed p r (s ∷ ss)
stay_push {T} {p} {q} {r} {s} {ss} x y = record { tokens = y.tokens ∙ x.tokens; stack = y.stack ∙ ap (λ zs. s ∷ zs) x.stack; names = y.names ∙ x.names }

pub stay : {T : Type 0} {p : Reader T} → Stayed p p p.stack
stay {T} {p} = record { tokens = refl; stack = refl; names = refl }

-- ---- an event that names nothing

pub record Bare {T : Type 0} (g : Goal) (p : Reader T) (names : Names) (e : Raw) (v : Ev) : Type 0 where
  pub resolves : resolved_event names e ≡ Some v
  pub after_it : names_after p.names.keeping.tags names e ≡ names
  pub seen : names_at p.names.keeping.tags g names ≡ names

plain_named : {T : Type 0} {g : Goal} {p r : Reader T} {names : Names} {e : Raw} {v : Ev} {given : List (Ev × Position)} → Bare g p names e v → r.names ≡ p.names → At g p names given → Named p r Goal.done names e v names
plain_named {T} {g} {p} {r} {names} {e} {v} {given} y same a =
    assumption (ap (λ n. n.keeping) same, subst (λ n. IsNamed n names) (sym same) (subst (IsNamed p.names) y.seen a.code), y)

-- ---- where it stands

-- The event stands at the token by which its row is chosen.
abbrev pub StandsHere : Raw → Type 0
StandsHere e = (b : Option Position) (k : defs.Token) → position_at k b e ≡ Some k.position

pub here_at : (b : Option Position) (e : Raw) (k : defs.Token) (m : Position) → StandsHere e → k.position ≡ m → IsAt b k (Some e) m
here_at b e k m here same = subst (λ o. IfSome o (λ p. m ≡ p)) (sym (here b k)) (sym same)

-- No value whose `:` was just taken is next.
abbrev pub HasNoColon : Goal → List State → Type 0
HasNoColon g ss = (o : Option Position) → IsPastColon (top g ss) o

module _ {T : Type 0} {g : Goal} {p r : Reader T} {ss : List State} {names : Names} {given : List (Ev × Position)} where
  -- The token is taken, and an event is given, which stands there.
  pub gives_at : {k k' : Kind} {e : Raw} {v : Ev} (m : Position) → IsOfKind k' p.tokens.peeked → k' ≡ k → HasNoText k → Skipped p r ss → Takes g p.stack (tok_of_kind k) (Some e) Goal.done ss
      → Bare g p names e v → is_over g ≡ false → is_end (tok_of_kind k) ≡ false → ((t : Token) → p.tokens.peeked ≡ Some t → IsAt (last_position p.tokens) (shown t) (Some e) m × IsPastColon (top Goal.done ss) (Some t.0))
      → At g p names given → (names' : Names) × At Goal.done r names' (given ++ (v, m) ∷ [])
  gives_at {k' = k'} {e} m o h plain s turn y over end places a =
      let l = looked k' p.tokens.peeked o in
      let t = l.0 in
      let x = s t l.1 in
      let same = tok_is (l.2 ∙ h) plain in (
        names,
        took l.1 x.tokens x.stack (subst (λ u. Takes g p.stack u (Some e) Goal.done ss) (sym same) turn) a (gave m (plain_named y x.names a) a) (λ w. (over, ap is_end same ∙ end)) (places t l.1).0 (places t l.1).1,
      )

  -- It stands at the token, which may be the `:` of a value that is next.
  pub gives : {k k' : Kind} {e : Raw} {v : Ev} (m : Position) → IsOfKind k' p.tokens.peeked → k' ≡ k → HasNoText k → IfSome p.tokens.peeked (λ t. t.0 ≡ m) → Skipped p r ss → Takes g p.stack (tok_of_kind k) (Some e) Goal.done ss
      → Bare g p names e v → StandsHere e → ((t : Token) → t.0 ≡ m → IsPastColon (top Goal.done ss) (Some t.0)) → is_over g ≡ false → is_end (tok_of_kind k) ≡ false
      → At g p names given → (names' : Names) × At Goal.done r names' (given ++ (v, m) ∷ [])
  gives {e = e} m o h plain mark s turn y here colon over end a =
      gives_at m o h plain s turn y over end (λ t is. let there = if_some_at (λ (u : Token). u.0 ≡ m) mark is in (here_at (last_position p.tokens) e (shown t) m here there, colon t there)) a

  -- The token is taken, and it goes on.
  pub goes_by : {g' : Goal} {t : Token} {x : Tok} → p.tokens.peeked ≡ Some t → Skips p.tokens t r.tokens → r.stack ≡ ss → r.names ≡ p.names → tok_of t.1 ≡ x → Takes g p.stack x None g' ss
      → names_at p.names.keeping.tags g' names ≡ names_at p.names.keeping.tags g names → IsPending names g' → is_over g ≡ false → is_end x ≡ false → IsPastColon (top g' ss) (Some t.0) → At g p names given → At g' r names given
  goes_by {g' = g'} here skips to same tok turn seen pending over end past a =
      took here skips to (subst (λ u. Takes g p.stack u None g' ss) (sym tok) turn) a (gave_none (ap (λ n. n.keeping) same)
      (subst (λ n. IsNamed n (names_at n.keeping.tags g' names)) (sym same) (subst (IsNamed p.names) (sym seen) a.code)) pending a) (λ w. (over, ap is_end tok ∙ end)) tt past

  pub goes : {g' : Goal} {k k' : Kind} → IsOfKind k' p.tokens.peeked → k' ≡ k → HasNoText k → Skipped p r ss → Takes g p.stack (tok_of_kind k) None g' ss
      → names_at p.names.keeping.tags g' names ≡ names_at p.names.keeping.tags g names → IsPending names g' → is_over g ≡ false → is_end (tok_of_kind k) ≡ false
      → ((t : Token) → p.tokens.peeked ≡ Some t → IsPastColon (top g' ss) (Some t.0)) → At g p names given → At g' r names given
  goes {k' = k'} o h plain s turn seen pending over end past a =
      let l = looked k' p.tokens.peeked o in
      let x = s l.0 l.1 in
      goes_by l.1 x.tokens x.stack x.names (tok_is (l.2 ∙ h) plain) turn seen pending over end (past l.0 l.1) a

  -- The token stays, and an event is given, which stands somewhere.
  pub leaves_at : {k : Kind} {e : Raw} {v : Ev} (m : Position) → IsOfKind k p.tokens.peeked → Stayed p r ss → ((t : Tok) → kind_of t ≡ k → Leaves g p.stack (Some t) (Some e) Goal.done ss)
      → Bare g p names e v → ((k : defs.Token) → BeginAt p.tokens.peeked (k ∷ []) → IsAt (last_position p.tokens) k (Some e) m) → HasNoColon Goal.done ss → breaks g Goal.done ≡ false
      → At g p names given → (names' : Names) × At Goal.done r names' (given ++ (v, m) ∷ [])
  leaves_at {k = k} m o s turn y spot colon over a =
      let l = looked k p.tokens.peeked o in
      (names, left (ap (option_map (λ (x : Token). tok_of x.1)) l.1) s.tokens s.stack (turn (tok_of l.0.1) l.2) a (gave m (plain_named y s.names a) a) over spot (colon (last_position p.tokens)))

  -- It stands at the token.
  pub leaves : {k : Kind} {e : Raw} {v : Ev} (m : Position) → IsOfKind k p.tokens.peeked → Stayed p r ss → ((t : Tok) → kind_of t ≡ k → Leaves g p.stack (Some t) (Some e) Goal.done ss)
      → Bare g p names e v → StandsHere e → IfSome r.tokens.peeked (λ t. t.0 ≡ m) → HasNoColon Goal.done ss → breaks g Goal.done ≡ false → At g p names given → (names' : Names) × At Goal.done r names' (given ++ (v, m) ∷ [])
  leaves {k = k} {e} m o s turn y here mark colon over a =
      let l = looked k p.tokens.peeked o in
      let there : l.0.0 ≡ m = if_some_at (λ (u : Token). u.0 ≡ m) (subst (λ x. IfSome x.peeked (λ t. t.0 ≡ m)) s.tokens mark) l.1 in
      leaves_at m o s turn y (λ j begins. here_at (last_position p.tokens) e j m here (subst (λ q. BeginAt q (j ∷ [])) l.1 begins ∙ there)) colon over a

  -- The token stays, and it goes on.
  pub stays : {g' : Goal} {k : Kind} → IsOfKind k p.tokens.peeked → Stayed p r ss → ((t : Tok) → kind_of t ≡ k → Leaves g p.stack (Some t) None g' ss)
      → names_at p.names.keeping.tags g' names ≡ names_at p.names.keeping.tags g names → IsPending names g' → HasNoColon g' ss → breaks g g' ≡ false → At g p names given → At g' r names given
  stays {g' = g'} {k} o s turn seen pending colon over a =
      let l = looked k p.tokens.peeked o in
      left (ap (option_map (λ (x : Token). tok_of x.1)) l.1) s.tokens s.stack (turn (tok_of l.0.1) l.2) a
      (gave_none (ap (λ n. n.keeping) s.names) (subst (λ n. IsNamed n (names_at n.keeping.tags g' names)) (sym s.names) (subst (IsNamed p.names) (sym seen) a.code)) pending a) over (λ k b. tt) (colon (last_position p.tokens))

  -- No token is looked at, and an event is given whose position is not promised.
  pub went : {e : Raw} {v : Ev} (m : Position) → Stayed p r ss → Leaves g p.stack (peeked_tok p.tokens) (Some e) Goal.done ss → Bare g p names e v → ((b : Option Position) (k : defs.Token) → position_at k b e ≡ None) → HasNoColon Goal.done ss → breaks g Goal.done ≡ false
      → At g p names given → (names' : Names) × At Goal.done r names' (given ++ (v, m) ∷ [])
  went m s turn y anywhere colon over a =
      (names, left refl s.tokens s.stack turn a (gave m (plain_named y s.names a) a) over (λ k begins. subst (λ o. IfSome o (λ q. m ≡ q)) (sym (anywhere (last_position p.tokens) k)) tt) (colon (last_position p.tokens)))

-- after a node none is
pub under_no_colon : (ss : List State) → is_under ss ≡ true → HasNoColon Goal.done ss
under_no_colon ss h o = grind arith

-- ---- what is answered

pub on_err : {A E : Type 0} (P : Type 0) (r : Result A E) → P → OnErr r P
on_err P (Ok e) f = tt
on_err P (Err e) f = f

pub fails : {T E : Type 0} (p : Reader T) (given : List (Ev × Position)) (r : Result (Unit {0}) E) (slot : EventSlot) → IsErr r → Faulted p given slot.fault → Answers p given (answered r slot)
fails {T} p given (Ok u) slot h f = cc
fails {T} p given (Err e) slot h f = f

pub error_is : {A E : Type 0} (r : Result A E) (x : E) → IsErrAnd r (λ e. e ≡ x) → r ≡ Err x
error_is r x h = grind arith

pub is_error : {A E : Type 0} (r : Result A E) (x : E) → IsErrAnd r (λ e. e ≡ x) → IsErr r
is_error r x h = ap is_err (error_is r x h)

pub reads : {T E : Type 0} {g : Goal} {old new : Reader T} {result : Result (Unit {0}) E} {slot : EventSlot} → ((names : Names) (given : List (Ev × Position)) → At g old names given → Answers new given (answered result slot)) → Reads g old new result slot
reads f = record { so = f }

pub answers_written : {T : Type 0} (p : Reader T) (given : List (Ev × Position)) (r : Event × Position) {x : Ev × Position} → placed r ≡ x
    → ((names : Names) × At (goal_after_event x.0) p names (given ++ x ∷ [])) → Answers p given (Ok r)
answers_written {T} p given r {x} h a = subst (λ y. (names : Names) × At (goal_after_event y.0) p names (given ++ y ∷ [])) (sym h) a

pub wrote : {T : Type 0} (p : Reader T) (given : List (Ev × Position)) {x y : Event × Position} → x ≡ y → Answers p given (Ok y) → Answers p given (Ok x)
wrote {T} p given h a = subst (λ e. Answers p given (Ok e)) (sym h) a

pub wrote_event : {T : Type 0} (p : Reader T) (given : List (Ev × Position)) (r : Event × Position) {e : Event} → r.0 ≡ e → Answers p given (Ok (e, r.1)) → Answers p given (Ok r)
wrote_event {T} p given r h a = subst (λ x. Answers p given (Ok (x, r.1))) (sym h) a

pub faulted_as : {T : Type 0} (p : Reader T) (given : List (Ev × Position)) {s u : Option Fault} → s ≡ u → Faulted p given u → Faulted p given s
faulted_as {T} p given h f = subst (Faulted p given) (sym h) f

-- ---- one of several kinds

pub not_as : {k k' x : Kind} → k ≢ x → k' ≡ k → k' ≢ x
not_as a h e = a (sym h ∙ e)

pub names_nothing : {T : Type 0} {g : Goal} {p : Reader T} {names : Names} {e : Raw} {v : Ev} → resolved_event names e ≡ Some v → names_after p.names.keeping.tags names e ≡ names → names_at p.names.keeping.tags g names ≡ names → Bare g p names e v
names_nothing a b c = record { resolves = a; after_it = b; seen = c }

-- ---- after a comma

-- A comma is taken.
pub comma_skipped : {T : Type 0} {m : Position} {p r : Reader T} (k : Kind) {ss : List State} → IsOfKind k p.tokens.peeked → IfSome p.tokens.peeked (λ t. t.0 ≡ m) → Skipped p r ss → IsRightAfter m r.tokens
comma_skipped {T} {m} {p} {r} k o mark s =
    let l = looked k p.tokens.peeked o in
    behind_more p.tokens.taken.items l.0 r.tokens.taken.items (s l.0 l.1).tokens.taken ∙ ap Some (if_some_at (λ (u : Token). u.0 ≡ m) mark l.1)

-- The end of a flow mapping stands at the comma before it, if there is one, else at its brace.
pub mapping_ends : {T : Type 0} (m : Position) {p r : Reader T} {k : Kind} {names : Names} {given : List (Ev × Position)} (comma : Option Position) → IsOfKind k p.tokens.peeked → k ≡ kind.FlowMappingEnd → IfSome p.tokens.peeked (λ t. t.0 ≡ m)
    → IfSome comma (λ q. IsRightAfter q p.tokens) → Skipped p r p.stack → At (Goal.flow_mapping_entries (start_after comma)) p names given → (names' : Names) × At Goal.done r names' (given ++ (Ev.mapping_end, unwrap_or comma m) ∷ [])
mapping_ends m None o h mark after s a = gives _ o h refl mark s ((flow_turns _).flow_mapping_entries_end _) (names_nothing refl refl refl) (λ b k. refl) (λ t there. under_no_colon _ a.stands.fits (Some t.0)) refl refl a
mapping_ends m (Some q) o h mark after s a =
    gives_at _ o h refl s ((flow_turns _).flow_mapping_entries_end _) (names_nothing refl refl refl) refl refl (λ t is. (subst (λ b. IfSome b (λ x. q ≡ x)) (sym after) refl, under_no_colon _ a.stands.fits (Some t.0))) a
