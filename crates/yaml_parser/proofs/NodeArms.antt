-- The arms of the productions of nodes.
use Rattle.yaml_parser.proofs.Common.{map-append, arith, [], all_shown, answered, Answers, ap, append_assoc, At, Awaits, BeginAt, Bool, both, both_ways, Derives, EndsInAnchor, Err, Ev, event_then, events_of, EventSlot, false, Faulted, fits, Goal, goal_after_event, grammar, Has, HasNoText, HasUndeclaredHandle, HasUnknownAnchor, Held, IfSome, inl, inr, is_end, is_of_names, IsCause, IsDerived, IsNamed, IsOfKind, kept_tag, Kind, kind_of, last_position, Leaves, List, name_of, named, named_by, Names, names_after, names_by, no_names, None, number, Ok, OnErr, OnOk, Option, option_map, OutOfMemory, peeked_tok, perhaps_anchor_of, perhaps_resolved, Place, placed, Position, Problem, Raw, Reader, reading, refl, Registers, resolved, resolved_event, Resolves, Result, row_read, said_by, scanned, shown, shown_list, Skips, SkipsOne, Some, StandsAt, State, Fault, StreamSays, Style, subst, sym, taken_toks, Takes, Tok, tok_is, tok_of, tok_of_kind, Token, Tokens, toks, true, UndeclaredHandle, under_name, UnknownAnchor, with_anchor, Works, ℕ, ◌++◌, ◌∙◌, ◌∷◌, ◌≡◌, ◌≢◌, ◌⊎◌, next_after, node_next, other_next}
use Rattle.defs_event.specs.Properties.{perhaps_tag_of}
use Rattle.defs_event.specs.Names.{prefix_of}
use Rattle.model_parser.specs.Stands.{IsNext as Starts}
use Rattle.model_parser.proofs.Standing.{next_more}
use Rattle.yaml_parser.specs.declared.node.Properties.{Properties}
use Rattle.yaml_parser.proofs.Steps.{looked, took, left, Named, if_some_at, gave}
use Rattle.yaml_parser.proofs.Arms.{StandsHere, HasNoColon, here_at, under_no_colon, Skipped, stays, stay, not_as, faulted_as}
use Rattle.yaml_parser.proofs.Ends.{at_derived, StandsBeside, at_peeked}
use Rattle.yaml_parser.proofs.Completed.{completed}
use Rattle.yaml_parser.proofs.Since.{since_stops}
use Rattle.yaml_parser.proofs.Ways.{apart_as, node_apart, node_comes, opens}
use Rattle.defs_token.specs.Token as defs
use Rattle.yaml_tokens.specs.declared.problem.Fault.TheVariants as fault
use Rattle.defs_event.specs.Event as event
use Rattle.defs_event.specs.Properties as written
use Rattle.model_parser.specs.declared.context.NodeContext as positions
use Rattle.model_parser.proofs.Nodes as turn
use Rattle.model_parser.specs.declared.kind.Kind.TheVariants as kind
use Rattle.defs_event.specs.Grammar as table

-- ---- an event with properties

-- the event that is made of the number and the tag that were given
pub with_number : {T : Type 0} {p r : Reader T} {x : Option Properties} {s : Names} {n : ℕ} {t : Option event.Tag} {e : Ev × Position} (f : ℕ → Option event.Tag → Ev × Position)
    → Registers p x s (λ a u. (n ≡ a) × (t ≡ u)) r → e ≡ f n t → Registers p x s (λ a u. e ≡ f a u) r
with_number {t = t} f r h = record { value = h ∙ ap (λ a. f a t) r.value.0 ∙ ap (f _) r.value.1; tokens = r.tokens; stack = r.stack; keep = r.keep; code = r.code }

-- how an event is made of an anchor and a tag, before and after the resolution of names
pub record Makes (mk : Option (List ℕ) → Option event.Tag → Raw) (f : ℕ → Option event.Tag → Ev) : Type 0 where
  pub resolves : (s : Names) (a : Option (List ℕ)) (t : Option event.Tag) → resolved_event s (mk a t) ≡ option_map (λ u. f (number s a) u) (perhaps_resolved s.handles t)
  pub after_it : (keep : Bool) (s : Names) (a : Option (List ℕ)) (t : Option event.Tag) → names_after keep s (mk a t) ≡ with_anchor s a

made_resolves : {mk : Option (List ℕ) → Option event.Tag → Raw} {f : ℕ → Option event.Tag → Ev} {s : Names} {o : Option written.Properties} {p : Option Properties} → Makes mk f → Has s o p
    → resolved_event s (mk (perhaps_anchor_of o) (perhaps_tag_of o)) ≡ Some (f (number s (name_of p)) (kept_tag p))
made_resolves {mk} {f} {s} {o} {p} k h = k.resolves s _ _ ∙ ap (option_map (λ u. f (number s (perhaps_anchor_of o)) u)) h.tag ∙ ap (λ a. Some (f (number s a) (kept_tag p))) h.anchor

-- the names after it
made_named : {T : Type 0} {p r : Reader T} {mk : Option (List ℕ) → Option event.Tag → Raw} {f : ℕ → Option event.Tag → Ev} {s : Names} {o : Option written.Properties} {x : Option Properties} {n : ℕ} {u : Option event.Tag}
    → Makes mk f → Has s o x → (n ≡ number s (name_of x)) × (u ≡ kept_tag x) → r.names.keeping ≡ p.names.keeping → IsNamed r.names (with_anchor s (name_of x))
    → Named p r Goal.done s (mk (perhaps_anchor_of o) (perhaps_tag_of o)) (f n u) (with_anchor s (name_of x))
made_named {T} {p} {r} {mk} {f} {s} {o} {x} {n} {u} k h value keep code =
    let resolves : resolved_event s (mk (perhaps_anchor_of o) (perhaps_tag_of o)) ≡ Some (f n u) = rw (value.0, value.1) (made_resolves k h) in
    assumption (resolves, k.after_it p.names.keeping.tags s (perhaps_anchor_of o) (perhaps_tag_of o) ∙ ap (with_anchor s) h.anchor, keep, code)

-- The start of a collection is taken, and its properties are registered.
pub starts : {T E : Type 0} (m : Position) {p q : Reader T} (r : Reader T) {k k' : Kind} {w : positions.NodeContext} {o : Option written.Properties} {x : Option Properties} {ss : List State} (mk : Option (List ℕ) → Option event.Tag → Raw) (f : ℕ → Option event.Tag → Ev) {s : Names} {given : List (Ev × Position)} (res : Result (Unit {0}) E) (slot : EventSlot)
    → Makes mk f → IsOfKind k' p.tokens.peeked → k' ≡ k → HasNoText k → is_end (tok_of_kind k) ≡ false
    → ((a : Option (List ℕ)) (t : Option event.Tag) → StandsHere (mk a t)) → HasNoColon Goal.done ss → IfSome p.tokens.peeked (λ t. t.0 ≡ m) → Skipped p q ss
    → Takes (Goal.content w o) p.stack (tok_of_kind k) (Some (mk (perhaps_anchor_of o) (perhaps_tag_of o))) Goal.done ss
    → ((names : Names) → IsNamed q.names names → OnOk res (Registers q x names (λ a t. placed slot.next ≡ (f a t, m)) r)) → OnErr res (slot.fault ≡ Some OutOfMemory)
    → ((a : ℕ) (t : Option event.Tag) → goal_after_event (f a t) ≡ Goal.done)
    → Has s o x → At (Goal.content w o) p s given → Answers r given (answered res slot)
starts {T} {E} m {p} {q} r {k} {k'} {w} {o} {x} {ss} mk f {s} {given} (Err u) slot makes here h plain end alike colon mark skip turn registers err no_end has a = subst (Faulted r given) (sym err) tt
starts {T} {E} m {p} {q} r {k} {k'} {w} {o} {x} {ss} mk f {s} {given} (Ok e) slot makes here h plain end alike colon mark skip turn registers err no_end has a =
    let l = looked k' p.tokens.peeked here in
    let t = l.0 in
    let y = skip t l.1 in
    let g = registers s (subst (λ n. IsNamed n s) (sym y.names) a.code) in
    let same : tok_of t.1 ≡ tok_of_kind k = tok_is (l.2 ∙ h) plain in
    let v : Ev × Position = (f (number s (name_of x)) (kept_tag x), m) in
    let one : At Goal.done r (with_anchor s (name_of x)) (given ++ v ∷ []) =
    took l.1 (subst (λ u. Skips p.tokens t u) (sym g.tokens) y.tokens) (g.stack ∙ y.stack) (subst (λ u. Takes (Goal.content w o) p.stack u (Some (mk (perhaps_anchor_of o) (perhaps_tag_of o))) Goal.done ss) (sym same) turn) a
    (gave m (made_named makes has (refl, refl) (g.keep ∙ ap (λ n. n.keeping) y.names) g.code) a) (λ b. (refl, ap is_end same ∙ end))
    (here_at (last_position p.tokens) (mk (perhaps_anchor_of o) (perhaps_tag_of o)) (shown t) m (alike (perhaps_anchor_of o) (perhaps_tag_of o)) (if_some_at (λ (z : Token). z.0 ≡ m) mark l.1)) (colon (Some t.0)) in
    let two : (names : Names) × At (goal_after_event v.0) r names (given ++ v ∷ []) = (with_anchor s (name_of x), subst (λ g. At g r (with_anchor s (name_of x)) (given ++ v ∷ [])) (sym (no_end _ _)) one) in
    subst (λ z. (names : Names) × At (goal_after_event z.0) r names (given ++ z ∷ [])) (sym g.value) two

-- A scalar is taken, and its properties are registered.
pub scalar_taken : {T : Type 0} (m : Position) {p q r : Reader T} {y : Style} {v : List ℕ} {n : ℕ} {u : Option event.Tag} {w : positions.NodeContext} {o : Option written.Properties} {x : Option Properties} {ss : List State} {s : Names} {given : List (Ev × Position)}
    → {t : Token} → p.tokens.peeked ≡ Some t → t.0 ≡ m → Skips p.tokens t q.tokens → q.stack ≡ ss → q.names ≡ p.names → tok_of t.1 ≡ Tok.scalar y v
    → Takes (Goal.content w o) p.stack (Tok.scalar y v) (Some (Raw.scalar v y (perhaps_anchor_of o) (perhaps_tag_of o))) Goal.done ss
    → ((names : Names) → IsNamed q.names names → Registers q x names (λ a b. (n ≡ a) × (u ≡ b)) r) → HasNoColon Goal.done ss
    → Has s o x → At (Goal.content w o) p s given → (names : Names) × At Goal.done r names (given ++ (Ev.scalar v y n u, m) ∷ [])
scalar_taken {T} m {p} {q} {r} {y} {v} {n} {u} {w} {o} {x} {ss} {s} {given} {t} here mark skips stack names_same tok turn registers colon has a =
    let g = registers s (subst (λ z. IsNamed z s) (sym names_same) a.code) in
    let makes : Makes (λ a b. Raw.scalar v y a b) (λ a b. Ev.scalar v y a b) = record { resolves = λ s a b. refl; after_it = λ k s a b. refl } in (
      with_anchor s (name_of x),
      took here (subst (λ z. Skips p.tokens t z) (sym g.tokens) skips) (g.stack ∙ stack) (subst (λ z. Takes (Goal.content w o) p.stack z (Some (Raw.scalar v y (perhaps_anchor_of o) (perhaps_tag_of o))) Goal.done ss) (sym tok) turn) a
          (gave m (made_named makes has g.value (g.keep ∙ ap (λ z. z.keeping) names_same) g.code) a) (λ b. (refl, ap is_end tok))
          (here_at (last_position p.tokens) (Raw.scalar v y (perhaps_anchor_of o) (perhaps_tag_of o)) (shown t) m (λ b k. refl) mark) (colon (Some t.0)),
    )

-- Properties alone are registered, and the token stays.
pub properties_left : {T : Type 0} (m : Position) {p r : Reader T} {k : Kind} {w : positions.NodeContext} {n : ℕ} {u : Option event.Tag} (o : Option written.Properties) {x : Properties} {s : Names} {given : List (Ev × Position)}
    → IsOfKind k p.tokens.peeked → IfSome p.tokens.peeked (λ t. t.0 ≡ m) → ((o' : written.Properties) (t : Tok) → kind_of t ≡ k → Leaves (Goal.content w (Some o')) p.stack (Some t) (Some (Raw.empty_scalar (written.anchor_of o') (written.tag_of o'))) Goal.done p.stack)
    → ((names : Names) → IsNamed p.names names → Registers p (Some x) names (λ a b. (n ≡ a) × (u ≡ b)) r)
    → Has s o (Some x) → At (Goal.content w o) p s given → (names : Names) × At Goal.done r names (given ++ (Ev.scalar [] Style.plain n u, m) ∷ [])
properties_left {T} m {p} {r} {k} {w} {n} {u} None {x} {s} {given} here mark turn registers has a = let b : false ≡ true = has.both in cc
properties_left {T} m {p} {r} {k} {w} {n} {u} (Some o) {x} {s} {given} here mark turn registers has a =
    let l = looked k p.tokens.peeked here in
    let g = registers s a.code in
    let makes : Makes (λ a b. Raw.empty_scalar a b) (λ a b. Ev.scalar [] Style.plain a b) = record { resolves = λ s a b. refl; after_it = λ k s a b. refl } in (
      with_anchor s (name_of (Some x)),
      left (ap (option_map (λ (z : Token). tok_of z.1)) l.1) g.tokens g.stack (turn o (tok_of l.0.1) l.2) a (gave m (made_named makes has g.value g.keep g.code) a) refl
          (λ j begins. here_at (last_position p.tokens) (Raw.empty_scalar (written.anchor_of o) (written.tag_of o)) j m (λ b k. refl) (subst (λ q. BeginAt q (j ∷ [])) l.1 begins ∙ if_some_at (λ (z : Token). z.0 ≡ m) mark l.1))
          (under_no_colon p.stack a.stands.fits.0 (last_position p.tokens)),
    )

-- ---- a name that stands for nothing

abbrev pub Unnameable : Bool → Names → List Raw → Type 0
Unnameable keep s es = named keep s es ≡ None

pub unnameable_first : (keep : Bool) (s : Names) (e : Raw) (es : List Raw) → resolved_event s e ≡ None → Unnameable keep s (e ∷ es)
unnameable_first keep s e es h = ap (λ o. both o (named keep (names_after keep s e) es)) h

-- The token was taken, and nothing that goes on after it can be named: so it is refused, for a problem of names that fits it.
pub unnamed_at : {T : Type 0} {g g' : Goal} {p r : Reader T} {t : Token} {m : Position} {ss : List State} {e : Option Raw} {names : Names} {given : List (Ev × Position)} (q : Problem)
    → fits q (kind_of (tok_of t.1)) ≡ true → is_of_names q ≡ true → StandsAt q m (all_shown p.tokens.taken.items) (shown t)
    → p.tokens.peeked ≡ Some t → Skips p.tokens t r.tokens → r.names.keeping ≡ p.names.keeping → Takes g p.stack (tok_of t.1) e g' ss
    → ((ts : List Tok) (es : List Raw) → Awaits g' ss ts es → Unnameable p.names.keeping.tags names (event_then e es))
    → IsCause q names (events_of given) (taken_toks p.tokens) (tok_of t.1) → ((a : At g p names given) → StandsBeside q a)
    → At g p names given → Faulted r given (Some (fault.At q m))
unnamed_at {T} {g} {g'} {p} {r} {t} {m} {ss} {e} {names} {given} q fit of_names stands here skips keep turn bad cause apart a =
    let handed : (scanned r.tokens.scanner).given ≡ all_shown p.tokens.taken.items ++ shown t ∷ [] =
    ap (λ x. (scanned x).given) skips.scanner ∙ a.handed ∙ ap (λ o. all_shown p.tokens.taken.items ++ shown_list o) here in
    record {
      blames = record {
        before = all_shown p.tokens.taken.items;
        last = shown t;
        whole = handed;
        raw = a.raw;
        derived = subst (λ k. IsDerived k.settings.items k.tags (all_shown p.tokens.taken.items) a.raw given) (sym keep) (at_derived g p names given a);
        unnamed = λ ts raw es d resolved.
            let h : toks (scanned r.tokens.scanner).given ++ ts ≡ taken_toks p.tokens ++ (tok_of t.1 ∷ ts) =
            ap (λ xs. toks xs ++ ts) handed ∙ ap (λ xs. xs ++ ts) (map-append (λ (x : defs.Token). x.tok) (all_shown p.tokens.taken.items) (shown t ∷ [])) ∙ append_assoc (taken_toks p.tokens) (tok_of t.1 ∷ []) ts in
            let b : Starts (peeked_tok p.tokens) (tok_of t.1 ∷ ts) = subst (λ o. Starts (option_map (λ (x : Token). tok_of x.1) o) (tok_of t.1 ∷ ts)) (sym here) refl in
            let o = a.stands.exact (tok_of t.1 ∷ ts) raw b (subst (λ us. StreamSays us raw) h d) in
            let n = turn.goes a.stands.fits ts o.0 o.2 in
            let no : named_by p.names.keeping raw ≡ None =
            ap (named_by p.names.keeping) (o.1 ∙ ap (λ xs. a.raw ++ xs) n.1)
            ∙ since_stops p.names.keeping.settings.items p.names.keeping.tags no_names a.raw _ a.few (ap (λ z. named p.names.keeping.tags z (event_then e n.0)) a.names_are ∙ bad ts n.0 n.2) in
            let yes : named_by p.names.keeping raw ≡ Some es = ap (λ k. named_by k raw) (sym keep) ∙ resolved in
            let clash : None ≡ Some es = sym no ∙ yes in
            cc;
        problem = q;
        shown = refl;
        fits_it = fit;
        says = λ e. absurd (both_ways (is_of_names q) e of_names);
        apart = λ h. (apart a).0;
        beside = λ h. (apart a).1 t.0 (at_peeked here);
        cause = subst (λ z. IsCause q z (events_of given) (taken_toks p.tokens) (tok_of t.1)) (sym (ap (λ k. names_by k a.raw) keep ∙ a.names_are)) cause;
        stands = stands;
        none = λ e. absurd (both_ways (is_of_names q) e of_names);
        some = λ named.
            let c = completed g' ss in
            let rest = c.tokens in
            let h : toks (scanned r.tokens.scanner).given ++ rest ≡ taken_toks p.tokens ++ (tok_of t.1 ∷ rest) =
            ap (λ xs. toks xs ++ rest) handed ∙ ap (λ xs. xs ++ rest) (map-append (λ (x : defs.Token). x.tok) (all_shown p.tokens.taken.items) (shown t ∷ [])) ∙ append_assoc (taken_toks p.tokens) (tok_of t.1 ∷ []) rest in
            (rest, a.raw ++ event_then e c.events, subst (λ us. StreamSays us (a.raw ++ event_then e c.events)) (sym h) (a.stands.sound (tok_of t.1 ∷ rest) (event_then e c.events) (turn.comes a.stands.fits rest c.events c.awaits)));
      };
    }

-- ---- small steps

-- no token of properties, and no alias
abbrev pub HasNoProperties : Kind → Type 0
HasNoProperties k = (k ≢ kind.Alias) × (k ≢ kind.Anchor) × (k ≢ kind.Tag)

-- a node without properties
pub bare : {T : Type 0} {p : Reader T} {k : Kind} (w : positions.NodeContext) {names : Names} {given : List (Ev × Position)} → IsOfKind k p.tokens.peeked → HasNoProperties k
    → At (Goal.node w) p names given → At (Goal.content w None) p names given
bare w here plain a = stays here stay (λ t h. turn.node_content _ _ t (not_as plain.0 h) (not_as plain.1 h) (not_as plain.2 h)) refl tt (λ o. tt) refl a

pub taken_with : {T : Type 0} {p q : Tokens T} {t : Token} → SkipsOne p q → p.peeked ≡ Some t → Skips p t q
taken_with {T} {p} {q} {t} h e = if_some_at (λ u. Skips p u q) h.token e

pub nothing_there : {A : Type 0} {names : Names} (o : Option written.Properties) → Has names o None → (o ≡ None → A) → A
nothing_there None has f = f refl
nothing_there (Some o) has f = let b : true ≡ false = has.both in cc

-- ---- properties, one by one

pub anchor_text : {t : Tok} {x : List ℕ} → kind_of t ≡ kind.Anchor → (t ≡ Tok.alias x) ⊎ (t ≡ Tok.anchor x) → t ≡ Tok.anchor x
anchor_text h e = grind arith

pub alias_text : {t : Tok} {x : List ℕ} → kind_of t ≡ kind.Alias → (t ≡ Tok.alias x) ⊎ (t ≡ Tok.anchor x) → t ≡ Tok.alias x
alias_text h e = grind arith

pub alias_taken : {T : Type 0} (m : Position) {p r : Reader T} {t : Token} {w : positions.NodeContext} {x : List ℕ} {n : ℕ} {names : Names} {given : List (Ev × Position)}
    → p.tokens.peeked ≡ Some t → t.0 ≡ m → Skips p.tokens t r.tokens → r.stack ≡ p.stack → r.names ≡ p.names → tok_of t.1 ≡ Tok.alias x → under_name x names.anchors ≡ Some n
    → At (Goal.node w) p names given → (names' : Names) × At Goal.done r names' (given ++ (Ev.alias n, m) ∷ [])
alias_taken {T} m {p} {r} {t} {w} {x} {n} {names} {given} here mark skips stack same tok found a = (
  names,
  took here skips stack (subst (λ u. Takes (Goal.node w) p.stack u (Some (Raw.alias x)) Goal.done p.stack) (sym tok) (turn.node_alias w p.stack x)) a
      (gave m (record { resolves = ap (option_map Ev.alias) found; after_it = refl; keep = ap (λ z. z.keeping) same; code = subst (λ z. IsNamed z names) (sym same) a.code; pending = tt }) a)
      (λ b. (refl, ap is_end tok)) (here_at (last_position p.tokens) (Raw.alias x) (shown t) m (λ b k. refl) mark) (under_no_colon p.stack a.stands.fits.0 (Some t.0)),
)

pub alias_unknown : {T : Type 0} {p r : Reader T} {t : Token} {m : Position} {w : positions.NodeContext} {x : List ℕ} {names : Names} {given : List (Ev × Position)}
    → p.tokens.peeked ≡ Some t → t.0 ≡ m → Skips p.tokens t r.tokens → r.names ≡ p.names → tok_of t.1 ≡ Tok.alias x → under_name x names.anchors ≡ None → At (Goal.node w) p names given → Faulted r given (Some (fault.At UnknownAnchor m))
alias_unknown {T} {p} {r} {t} {m} {w} {x} {names} {given} here mark skips same tok missing a =
    unnamed_at UnknownAnchor (ap (λ u. fits UnknownAnchor (kind_of u)) tok) refl (inl (sym mark, λ e. absurd (cc e))) here skips (ap (λ z. z.keeping) same) (subst (λ u. Takes (Goal.node w) p.stack u (Some (Raw.alias x)) Goal.done p.stack) (sym tok) (turn.node_alias w p.stack x))
    (λ ts es y. unnameable_first p.names.keeping.tags names (Raw.alias x) es (ap (option_map Ev.alias) missing)) (subst (HasUnknownAnchor names) (sym tok) missing) node_apart a

-- ---- a node whose tag stands for nothing

content_unnameable : (keep : Bool) (s : Names) (p : Place) (h : Held) (w : Works) (ts : List Tok) (es : List Raw) → perhaps_resolved s.handles h.tag ≡ None → Derives grammar (reading (table.content p) h ∷ w) ts es → Unnameable keep s es
content_unnameable keep s p h w ts es k d = grind (arith, row_read, said_by)

-- An anchor may still come.
tagged_unnameable : (keep : Bool) (s : Names) (p : Place) (h : Held) (w : Works) (ts : List Tok) (es : List Raw) → perhaps_resolved s.handles h.tag ≡ None → Derives grammar (reading (table.after_tag p) h ∷ w) ts es → Unnameable keep s es
tagged_unnameable keep s p h w ts es k d = grind (arith, row_read, content_unnameable)

anchor_named : (t : Tok) → kind_of t ≡ kind.Anchor → (n : List ℕ) × (t ≡ Tok.anchor n)
anchor_named t h = grind arith

-- Where a node is to be read, no anchor was taken last: after one none begins.
no_anchor_before : {T : Type 0} {p : Reader T} {m : Position} (w : positions.NodeContext) {names : Names} {given : List (Ev × Position)}
    → At (Goal.node w) p names given → EndsInAnchor (all_shown p.tokens.taken.items) m → ⊥
no_anchor_before {T} {p} {m} w a e =
    let n = anchor_named e.anchor.tok e.is in
    let taken : taken_toks p.tokens ≡ toks e.before ++ Tok.anchor n.0 ∷ [] =
    ap toks e.whole ∙ map-append (λ (x : defs.Token). x.tok) e.before (e.anchor ∷ []) ∙ ap (λ u. toks e.before ++ u ∷ []) n.1 in
    let no : other_next ≡ node_next = sym (next_more other_next (toks e.before) (Tok.anchor n.0)) ∙ ap (next_after other_next) (sym taken) ∙ node_comes a in
    cc

no_prefix : (x : event.Tag) (o : Option (List ℕ)) → option_map {U = event.Tag} (λ prefix. record { handle = prefix; suffix = x.suffix }) o ≡ None → o ≡ None
no_prefix x o h = grind arith

pub tag_unknown : {T : Type 0} {p r : Reader T} {t : Token} {m : Position} {w : positions.NodeContext} {x : event.Tag} {names : Names} {given : List (Ev × Position)}
    → p.tokens.peeked ≡ Some t → t.0 ≡ m → Skips p.tokens t r.tokens → r.names ≡ p.names → tok_of t.1 ≡ written.tag_token x → resolved names.handles x ≡ None → At (Goal.node w) p names given → Faulted r given (Some (fault.At UndeclaredHandle m))
tag_unknown {T} {p} {r} {t} {m} {w} {x} {names} {given} here mark skips same tok missing a =
    unnamed_at UndeclaredHandle (ap (λ u. fits UndeclaredHandle (kind_of u)) tok) refl (inl (sym mark, λ e q before. no_anchor_before w a before)) here skips (ap (λ z. z.keeping) same) (subst (λ z. Takes (Goal.node w) p.stack z None (Goal.after_tag w x) p.stack) (sym tok) (turn.node_tag w p.stack x))
    (λ ts es y. tagged_unnameable p.names.keeping.tags names _ _ _ ts es (ap (option_map Some) missing) y.0)
    (subst (HasUndeclaredHandle names) (sym tok) (no_prefix x (prefix_of names.handles x.handle) missing)) (apart_as (opens (Goal.node w) _ refl) refl refl) a

pub tag_unknown_after : {T : Type 0} {p r : Reader T} {t : Token} {m : Position} {w : positions.NodeContext} {v : List ℕ} {x : event.Tag} {names : Names} {given : List (Ev × Position)}
    → p.tokens.peeked ≡ Some t → EndsInAnchor (all_shown p.tokens.taken.items) m → Skips p.tokens t r.tokens → r.names ≡ p.names → tok_of t.1 ≡ written.tag_token x → resolved names.handles x ≡ None → At (Goal.after_anchor w v) p names given → Faulted r given (Some (fault.At UndeclaredHandle m))
tag_unknown_after {T} {p} {r} {t} {m} {w} {v} {x} {names} {given} here anchored skips same tok missing a =
    unnamed_at UndeclaredHandle (ap (λ u. fits UndeclaredHandle (kind_of u)) tok) refl (inr (refl, anchored)) here skips (ap (λ z. z.keeping) same) (subst (λ z. Takes (Goal.after_anchor w v) p.stack z None (Goal.content w (Some (written.anchored_tagged v x))) p.stack) (sym tok) (turn.anchor_tag w p.stack v x))
    (λ ts es y. content_unnameable p.names.keeping.tags names _ _ _ ts es (ap (option_map Some) missing) y.0)
    (subst (HasUndeclaredHandle names) (sym tok) (no_prefix x (prefix_of names.handles x.handle) missing)) (apart_as (opens (Goal.after_anchor w v) _ refl) refl refl) a

-- An anchor was taken, and then a token was looked at.
pub anchor_before : {T : Type 0} {p q : Tokens T} (r : Tokens T) {t : Token} {m : Position} → Skips p t q → r.taken ≡ q.taken → kind_of (tok_of t.1) ≡ kind.Anchor → t.0 ≡ m → EndsInAnchor (all_shown r.taken.items) m
anchor_before {T} {p} {q} r {t} {m} skips taken is mark = record {
  before = all_shown p.taken.items;
  anchor = shown t;
  whole = ap (λ x. all_shown x.items) taken ∙ ap all_shown skips.taken ∙ map-append shown p.taken.items (t ∷ []);
  is = is;
  at = sym mark;
}

pub resolve_fails : {T : Type 0} (r : Reader T) (given : List (Ev × Position)) (m : Position) (names : Names) (t : event.Tag) (s : Fault) → Resolves m names t (Err s)
    → (resolved names.handles t ≡ None → Faulted r given (Some (fault.At UndeclaredHandle m))) → Faulted r given (Some s)
resolve_fails r given m names t OutOfMemory h f = tt
resolve_fails r given m names t (fault.At q n) h f = faulted_as r given (ap (λ x. Some (fault.At x n)) h.1 ∙ ap (λ x. Some (fault.At UndeclaredHandle x)) h.2) (f h.0)
