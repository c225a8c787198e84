-- The events that a parser gives are a beginning of nested events, so the stream's end comes in no document.
use Rattle.yaml_parser.proofs.Common.{[], ap, arith, At, Awaits, BeginsNested, Bool, both, Derives, Directive, end_events, end_tokens, Ev, events_of, false, false_from_ne_true, Goal, goes_so, if◌then◌else◌, is_open, length, List, named, named_shaped, Names, names_after, needs_tokens, no_names, None, not_refused, opened, Option, Position, Raw, Reader, reading, refl, resolved_event, row_read, said_by, Some, StreamSays, subst, sym, taken_toks, Tok, true, works, ◌++◌, ◌∙◌, ◌∷◌, ◌≡◌, both_some, named_since, NamedFirst, Shaped}
use Rattle.defs_event.specs.Nested.{Open, in_stream, before_node, after_node, in_sequence, at_key, at_value, open_after, there_and, closes, is_nested, IsNested}
use Rattle.defs_event.proofs.NestedTest.{test_is_exact}
use Rattle.defs_event.proofs.StreamNests.{shaped_nests}
use Rattle.yaml_parser.proofs.Completed.{Nameable, are_free, free_named, works_free, completed}
use Rattle.defs_event.specs.Grammar as table

-- ---- events and the raw ones that they come of, side by side

-- A resolved event has its raw one's shape.
one_more : (r : Raw) (v : Ev) (rs : List Raw) (vs : List Ev) → Shaped (r ∷ []) (v ∷ []) → Shaped rs vs → Shaped (r ∷ rs) (v ∷ vs)
one_more r v rs vs h k = grind arith

-- the first event, and the shape of the others
first_shaped : (k : Bool) (s : Names) (r : Raw) (rs : List Raw) (os : Option (List Ev)) (vs ws : List Ev) → (f : NamedFirst (resolved_event s r) os vs) → Shaped rs (f.more ++ ws) → Shaped (r ∷ rs) (vs ++ ws)
first_shaped k s r rs os vs ws f x = subst (λ us. Shaped (r ∷ rs) (us ++ ws)) (sym f.whole) (one_more r f.event rs (f.more ++ ws) (named_shaped k s (r ∷ []) (f.event ∷ []) (ap (λ o. both o (Some [])) f.is_first)) x)

-- Events, and others of this shape after them, have the shape of all.
pub since_shaped : (ks : List Bool) (k : Bool) (s : Names) (rs more : List Raw) (vs ws : List Ev) → named_since ks k s rs ≡ Some vs → Shaped more ws → Shaped (rs ++ more) (vs ++ ws)
since_shaped [] k s [] more vs ws h x = let none : [] ≡ vs = cc in subst (λ us. Shaped more (us ++ ws)) none x
since_shaped [] k s (r ∷ rs) more vs ws h x =
    let f = both_some (resolved_event s r) (named k (names_after k s r) rs) vs h in
    first_shaped k s r (rs ++ more) (named k (names_after k s r) rs) vs ws f (since_shaped [] k (names_after k s r) rs more f.more ws f.are_more x)
since_shaped (j ∷ ks) k s [] more vs ws h x = let none : [] ≡ vs = cc in subst (λ us. Shaped more (us ++ ws)) none x
since_shaped (j ∷ ks) k s (r ∷ rs) more vs ws h x =
    let f = both_some (resolved_event s r) (named_since ks k (names_after j s r) rs) vs h in
    first_shaped k s r (rs ++ more) (named_since ks k (names_after j s r) rs) vs ws f (since_shaped ks k (names_after j s r) rs more f.more ws f.are_more x)

-- What is awaited and can be named completes them.
nested_by : {T : Type 0} {g : Goal} {p : Reader T} {names : Names} {given : List (Ev × Position)} (a : At g p names given) {ts : List Tok} {es : List Raw} → Awaits g p.stack ts es
    → (n : Nameable p.names.keeping.tags names es) → IsNested (events_of given ++ n.0)
nested_by {T} {g} {p} {names} {given} a {ts} {es} x n =
    let keep = p.names.keeping.tags in
    shaped_nests (taken_toks p.tokens ++ ts) (a.raw ++ es) (events_of given ++ n.0) (a.stands.sound ts es x)
    (since_shaped p.names.keeping.settings.items keep no_names a.raw es (events_of given) n.0 a.events (named_shaped keep names es n.0 n.1))

pub at_begins_nested : {T : Type 0} (g : Goal) (p : Reader T) (names : Names) (given : List (Ev × Position)) → At g p names given → BeginsNested (events_of given)
at_begins_nested g p names given a = let c = completed g p.stack in let n = c.nameable p.names.keeping.tags names a.pending in (n.0, nested_by a c.awaits n)

-- ---- what is open

-- a document is open
abbrev in_document : List Open → Bool
in_document (before_node ∷ os) = true
in_document (after_node ∷ os) = true
in_document (in_sequence ∷ os) = in_document os
in_document (at_key ∷ os) = in_document os
in_document (at_value ∷ os) = in_document os
in_document _ = false

abbrev all_in_document : Option (List Open) → Bool
all_in_document None = true
all_in_document (Some os) = in_document os

opens : (e : Ev) (os : List Open) (b : Bool) → (b ≡ true → in_document os ≡ true) → opened e b ≡ true → all_in_document (open_after e os) ≡ true
opens Ev.document_start (in_stream ∷ os) b k o = refl
opens (Ev.alias n) (before_node ∷ os) true k o = refl
opens e os true k o = first_of (cc (k refl, o), search (k refl), grind (arith, k refl))
opens e os false k o = cc o

-- It never stands in a document.
abbrev pub IsOutside : Ev → Type 0
IsOutside v = (os : List Open) → in_document os ≡ true → open_after v os ≡ None

end_is_outside : IsOutside Ev.stream_end
end_is_outside os h = grind arith

-- What closes goes on after its first event.
closes_on : (x : Option (List Open)) (es : List Ev) {P : Type 0} → ((new : List Open) → x ≡ Some new → closes es new ≡ true → P) → there_and (closes es) x ≡ true → P
closes_on None es f c = cc
closes_on (Some new) es f c = f new refl c

-- No nesting closes that has such an event in a document.
never_closes : (v : Ev) → IsOutside v → (es more : List Ev) (b : Bool) (os : List Open) → (b ≡ true → in_document os ≡ true) → is_open b es ≡ true → closes (es ++ v ∷ more) os ≡ true → ⊥
never_closes v out [] more b os k o h = let no : there_and (closes more) None ≡ true = subst (λ x. there_and (closes more) x ≡ true) (out os (k o)) h in cc
never_closes v out (e ∷ es) more b os k o h = closes_on (open_after e os) (es ++ v ∷ more) (λ new i. never_closes v out es more (opened e b) new (λ q. subst (λ x. all_in_document x ≡ true) i (opens e os b k q)) o) h

from_start : (e : Ev) (es : List Ev) → is_nested (e ∷ es) ≡ true → (e ≡ Ev.stream_start) × (closes es (in_stream ∷ []) ≡ true)
from_start e es h = grind arith

never_nested : (v : Ev) → IsOutside v → (es more : List Ev) → is_open false es ≡ true → is_nested (es ++ v ∷ more) ≡ true → ⊥
never_nested v out [] more o h = cc
never_nested v out (e ∷ es) more o h =
    let f = from_start e (es ++ v ∷ more) h in
    never_closes v out es more false (in_stream ∷ []) (λ no. cc) (subst (λ x. is_open (opened x false) es ≡ true) f.0 o) f.1

end_after : (es : List (Ev × Position)) (p : Position) (more : List Ev) → events_of (es ++ (Ev.stream_end, p) ∷ []) ++ more ≡ events_of es ++ Ev.stream_end ∷ more
end_after [] p more = refl
end_after (e ∷ es) p more = ap (λ vs. e.0 ∷ vs) (end_after es p more)

-- The stream's end comes in no document.
pub no_end_inside : (es : List (Ev × Position)) (p : Position) → is_open false (events_of es) ≡ true → BeginsNested (events_of (es ++ (Ev.stream_end, p) ∷ [])) → ⊥
no_end_inside es p o n =
    let all = (test_is_exact (events_of (es ++ (Ev.stream_end, p) ∷ []) ++ n.0)).1 n.1 in
    never_nested Ev.stream_end end_is_outside (events_of es) n.0 o (subst (λ vs. is_nested vs ≡ true) (end_after es p n.0) all)

pub open_more : (b : Bool) (es : List (Ev × Position)) (e : Ev) (p : Position) → is_open b (events_of (es ++ (e, p) ∷ [])) ≡ opened e (is_open b (events_of es))
open_more b [] e p = refl
open_more b (x ∷ es) e p = open_more (opened x.0 b) es e p

-- ---- outside of documents

-- The events begin nested ones that go on with this one.
nested_with : {T : Type 0} {g : Goal} {p : Reader T} {names : Names} {given : List (Ev × Position)} (a : At g p names given) (e : Raw) {ts : List Tok} {es : List Raw} → Awaits g p.stack ts (e ∷ es) → {v : Ev} → resolved_event names e ≡ Some v → are_free es ≡ true
    → (ws : List Ev) × (is_nested (events_of given ++ v ∷ ws) ≡ true)
nested_with {T} {g} {p} {names} {given} a e {ts} {es} x {v} r free =
    let keep = p.names.keeping.tags in
    let m = free_named keep es free (names_after keep names e) in
    let n : Nameable keep names (e ∷ es) = (v ∷ m.0, ap (λ o. both o (named keep (names_after keep names e) es)) r ∙ ap (λ o. both (Some v) o) m.1) in
    (m.0, (test_is_exact (events_of given ++ n.0)).1 (nested_by a x n))

-- Where the stream's end or a document's start may come, no document is open.
pub explicit_outside : {T : Type 0} {p : Reader T} {names : Names} {given : List (Ev × Position)} → At Goal.explicit_document p names given → is_open false (events_of given) ≡ false
explicit_outside {T} {p} {names} {given} a =
    let n = nested_with a Raw.stream_end (goes_so Goal.explicit_document p.stack Tok.stream_end [] refl refl) refl (works_free p.stack) in
    false_from_ne_true (is_open false (events_of given)) (λ o. never_nested Ev.stream_end end_is_outside (events_of given) n.0 o n.1)

pub directed_outside : {T : Type 0} {p : Reader T} {ds : List Directive} {names : Names} {given : List (Ev × Position)} → At (Goal.directives ds) p names given → is_open false (events_of given) ≡ false
directed_outside {T} {p} {ds} {names} {given} a =
    let n = nested_with a (Raw.document_start ds) (goes_so (Goal.directives ds) p.stack Tok.document_start [] refl refl) (ap (λ b. if b then Some Ev.document_start else None) a.pending) (works_free p.stack) in
    false_from_ne_true (is_open false (events_of given)) (λ o. never_nested Ev.document_start (λ os h. grind arith) (events_of given) n.0 o n.1)

never_starts : (es more : List Ev) (os : List Open) → closes (es ++ Ev.stream_start ∷ more) os ≡ true → ⊥
never_starts [] more os h = cc
never_starts (e ∷ es) more os h = closes_on (open_after e os) (es ++ Ev.stream_start ∷ more) (λ new i. never_starts es more new) h

-- The start of a document comes after directives.
directed_first : (h : table.Held) (ts : List Tok) (es : List Raw) → Derives table.grammar (reading table.directives h ∷ []) ts (Raw.stream_end ∷ es) → ⊥
directed_first h [] es d = needs_tokens (reading table.directives h ∷ []) (Raw.stream_end ∷ es) refl d
directed_first h (t ∷ ts) es d =
    let i = λ (k : table.Held). directed_first k ts es in
    let r = row_read table.directives h [] t ts (Raw.stream_end ∷ es) d in
    grind (arith, said_by)

nothing_left : (ts us : List Tok) (es : List Raw) → Derives table.grammar [] (ts ++ Tok.stream_start ∷ us) es → ⊥
nothing_left [] us es d = elim d [ ]
nothing_left (t ∷ ts) us es d = elim d [ ]

-- A stream in which no document begins has its start first and never again.
starts_once : (ts us : List Tok) (es : List Raw) → Derives table.grammar (reading table.documents table.nothing_held ∷ []) (ts ++ Tok.stream_start ∷ us) (Raw.stream_end ∷ es) → ⊥
starts_once [] us es d = let r : true ≡ false = not_refused 9 Tok.stream_start (reading table.documents table.nothing_held ∷ []) us (Raw.stream_end ∷ es) d in cc
starts_once (t ∷ ts) us es d = let i = starts_once ts us es in grind (arith, row_read, said_by, directed_first, nothing_left)

-- Before the stream's start nothing was given.
pub nothing_given : {T : Type 0} {p : Reader T} {names : Names} {given : List (Ev × Position)} → At Goal.stream p names given → events_of given ≡ []
nothing_given {T} {p} {names} {given} a =
    let n = nested_with a Raw.stream_start (goes_so Goal.stream p.stack Tok.stream_start [] refl refl) refl (works_free p.stack) in
    by (events_of given) n.0 n.1
  where
    by : (es ws : List Ev) → is_nested (es ++ Ev.stream_start ∷ ws) ≡ true → es ≡ []
    by [] ws h = refl
    by (e ∷ es) ws h = absurd (never_starts es ws (in_stream ∷ []) (from_start e (es ++ Ev.stream_start ∷ ws) h).1)

pub nothing_read : {T : Type 0} {p : Reader T} {names : Names} {given : List (Ev × Position)} → (a : At Goal.stream p names given) → a.raw ≡ []
nothing_read {T} {p} {names} {given} a = empty a.raw given a.count (nothing_given a)
  where
    empty : (rs : List Raw) (es : List (Ev × Position)) → length rs ≡ length es → events_of es ≡ [] → rs ≡ []
    empty [] es l h = refl
    empty (r ∷ rs) [] l h = absurd (omega (arith, l))
    empty (r ∷ rs) (e ∷ es) l h = cc

-- and nothing was taken.
pub nothing_taken : {T : Type 0} {p : Reader T} {names : Names} {given : List (Ev × Position)} → At Goal.stream p names given → taken_toks p.tokens ≡ []
nothing_taken {T} {p} a =
    let d = a.stands.sound _ _ (goes_so Goal.stream p.stack Tok.stream_start (Tok.stream_end ∷ []) refl refl) in
    by (taken_toks p.tokens) (end_tokens (works p.stack)) (end_events (works p.stack))
    (subst (λ rs. StreamSays (taken_toks p.tokens ++ Tok.stream_start ∷ Tok.stream_end ∷ end_tokens (works p.stack)) (rs ++ Raw.stream_start ∷ Raw.stream_end ∷ end_events (works p.stack))) (nothing_read a) d)
  where
    by : (taken us : List Tok) (es : List Raw) → StreamSays (taken ++ Tok.stream_start ∷ Tok.stream_end ∷ us) (Raw.stream_start ∷ Raw.stream_end ∷ es) → taken ≡ []
    by [] us es d = refl
    by (t ∷ ts) us es d = absurd (grind (arith, row_read, said_by, starts_once))
