-- In the events of a stream, each alias has a higher number than all anchors of earlier documents.
use Rattle.yaml_loader.proofs.Common.{[], after_node, ap, arith, at_key, bad_value, before_node, Bool, bytes_eq, closes, Ev, events_of, false, HasNoEnd, IfSome, if◌then◌else◌, in_sequence, in_stream, is_end, is_nested, IsNested, List, max, new_loader, None, open_after, Option, option_map, Position, refl, Some, subst, sym, there_and, Tree, true, with_events, ℕ, ◌++◌, ◌<◌, ◌∙◌, ◌∷◌, ◌≡◌, ◌≤◌}
use Rattle.defs_event.specs.Raw.{Raw}
use Rattle.defs_event.specs.Names.{Names, under_name, are_allowed, perhaps_resolved, number, with_anchor, named, names_after, resolved_event}
use Rattle.defs_event.proofs.NameLemmas.{both_some}
use Rattle.yaml_loader.proofs.Beside.{AllSuit, anchor_of, Suits}
use Rattle.yaml_loader.proofs.JsonTexts.{either}
use Rattle.defs_event.specs.Nested.{Open}
use Rattle.defs_event.proofs.NestedTest.{test_is_exact}

-- the highest number of an anchor after these events, where it was this one before them
abbrev pub highest : ℕ → List Ev → ℕ
highest high [] = high
highest high (e ∷ es) = highest (max high (anchor_of e)) es

-- the number over which the aliases of the document are: the highest one at its start
abbrev pub low_after : Ev → ℕ → ℕ → ℕ
low_after Ev.document_start low high = high
low_after _ low high = low

abbrev pub IsOver : ℕ → Ev → Type 0
IsOver low (Ev.alias n) = low < n
IsOver low _ = Unit {0}

-- Each alias has a number over those of the anchors of earlier documents.
abbrev pub AreOwn : ℕ → ℕ → List Ev → Type 0
AreOwn low high [] = Unit {0}
AreOwn low high (e ∷ es) = IsOver low e × AreOwn (low_after e low high) (max high (anchor_of e)) es

-- ---- names

some_is : {A : Type 0} {x y : A} → Some x ≡ Some y → x ≡ y
some_is h = cc

abbrev AllOver : ℕ → List (List ℕ × ℕ) → Type 0
AllOver low [] = Unit {0}
AllOver low (p ∷ ps) = (low < p.1) × AllOver low ps

-- a name that is known has such a number
under_over : (low : ℕ) (name : List ℕ) (ps : List (List ℕ × ℕ)) (n : ℕ) → under_name name ps ≡ Some n → AllOver low ps → low < n
under_over low name [] n h o = cc
under_over low name (p ∷ ps) n h o =
    either (λ x. x ≡ Some n → low < n) (bytes_eq name p.0) (Some p.1) (under_name name ps)
    (λ e. subst (λ k. low < k) (some_is e) o.0) (λ e. under_over low name ps n e o.1) h

-- what one more event leaves
record Leaves (keep_tags : Bool) (s : Names) (low : ℕ) (e : Raw) (v : Ev) : Type 0 where
  over : IsOver low v
  anchors : AllOver (low_after v low s.count) (names_after keep_tags s e).anchors
  count : max s.count (anchor_of v) ≡ (names_after keep_tags s e).count
  under : low_after v low s.count ≤ (names_after keep_tags s e).count

module _ (keep_tags : Bool) (s : Names) (low : ℕ) (h : low ≤ s.count) (o : AllOver low s.anchors) where
  -- the names after an anchor, or none
  with_one : (a : Option (List ℕ)) → AllOver low (with_anchor s a).anchors × (max s.count (number s a) ≡ (with_anchor s a).count) × (low ≤ (with_anchor s a).count)
  with_one None = (o, omega arith, h)
  with_one (Some name) = ((omega (arith, h), o), omega arith, omega (arith, h))

  -- an event whose node has this anchor, or that changes no names
  anchored : (a : Option (List ℕ)) (e : Raw) (v : Ev) → names_after keep_tags s e ≡ with_anchor s a → IsOver low v → anchor_of v ≡ number s a
      → low_after v low s.count ≡ low → Leaves keep_tags s low e v
  anchored a e v names over is stays =
      let one = with_one a in
      record {
        over = over;
        anchors = subst (λ l. AllOver l (names_after keep_tags s e).anchors) (sym stays) (subst (λ x. AllOver low x.anchors) (sym names) one.0);
        count = ap (max s.count) is ∙ one.1 ∙ ap (λ x. x.count) (sym names);
        under = subst (λ l. l ≤ (names_after keep_tags s e).count) (sym stays) (subst (λ x. low ≤ x.count) (sym names) one.2);
      }

  -- an event that comes of what is resolved: a node's tag, or the number of an alias
  of_node : (a : Option (List ℕ)) (e : Raw) {T : Type 0} (f : T → Ev) (t : Option T) (v : Ev) → option_map f t ≡ Some v → names_after keep_tags s e ≡ with_anchor s a
      → ((u : T) → t ≡ Some u → IsOver low (f u) × (anchor_of (f u) ≡ number s a) × (low_after (f u) low s.count ≡ low)) → Leaves keep_tags s low e v
  of_node a e f None v r names h = cc
  of_node a e f (Some t) v r names h = let x = h t refl in subst (Leaves keep_tags s low e) (some_is r) (anchored a e (f t) names x.0 x.1 x.2)

  leaves : (e : Raw) (v : Ev) → resolved_event s e ≡ Some v → Leaves keep_tags s low e v
  leaves (Raw.document_start ds) v r = by (are_allowed ds) r
    where
      by : (b : Bool) → (if b then Some Ev.document_start else None) ≡ Some v → Leaves keep_tags s low (Raw.document_start ds) v
      by true e = subst (Leaves keep_tags s low (Raw.document_start ds)) (some_is e) (record { over = tt; anchors = tt; count = omega arith; under = omega arith })
      by false e = cc
  leaves (Raw.alias name) v r = of_node None _ Ev.alias (under_name name s.anchors) v r refl (λ n e. (under_over low name s.anchors n e o, refl, refl))
  leaves (Raw.scalar text style a t) v r = of_node a _ _ (perhaps_resolved s.handles t) v r refl (λ u e. (tt, refl, refl))
  leaves (Raw.empty_scalar a t) v r = of_node a _ _ (perhaps_resolved s.handles t) v r refl (λ u e. (tt, refl, refl))
  leaves (Raw.flow_sequence_start a t) v r = of_node a _ _ (perhaps_resolved s.handles t) v r refl (λ u e. (tt, refl, refl))
  leaves (Raw.sequence_start a t) v r = of_node a _ _ (perhaps_resolved s.handles t) v r refl (λ u e. (tt, refl, refl))
  leaves (Raw.indentless_sequence_start a t) v r = of_node a _ _ (perhaps_resolved s.handles t) v r refl (λ u e. (tt, refl, refl))
  leaves (Raw.flow_mapping_start a t) v r = of_node a _ _ (perhaps_resolved s.handles t) v r refl (λ u e. (tt, refl, refl))
  leaves (Raw.mapping_start a t) v r = of_node a _ _ (perhaps_resolved s.handles t) v r refl (λ u e. (tt, refl, refl))
  leaves e v r = subst (Leaves keep_tags s low e) (some_is r) (anchored None e _ refl tt refl refl)

-- the events of a stream, by what its tokens say
pub named_own : (keep_tags : Bool) (s : Names) (low : ℕ) (rs : List Raw) (es : List Ev) → low ≤ s.count → AllOver low s.anchors → named keep_tags s rs ≡ Some es → AreOwn low s.count es
named_own keep_tags s low [] es h o r = subst (AreOwn low s.count) (some_is r) tt
named_own keep_tags s low (e ∷ rs) es h o r =
    let s' = names_after keep_tags s e in
    let f = both_some (resolved_event s e) (named keep_tags s' rs) es r in
    let l = leaves keep_tags s low h o e f.event f.is_first in
    let more = named_own keep_tags s' (low_after f.event low s.count) rs f.more l.under l.anchors f.are_more in
    subst (AreOwn low s.count) (sym f.whole) (l.over, subst (λ k. AreOwn (low_after f.event low s.count) k f.more) (sym l.count) more)

-- the events that follow
pub own_rest : (low high : ℕ) (es fs : List Ev) → AreOwn low high (es ++ fs) → (l : ℕ) × AreOwn l (highest high es) fs
own_rest low high [] fs h = (low, h)
own_rest low high (e ∷ es) fs h = own_rest (low_after e low high) (max high (anchor_of e)) es fs h.1

-- ---- numbers up to the highest one

-- An alias over this number means nothing.
abbrev pub UpTo : ℕ → ℕ → Tree → Tree → Type 0
UpTo high n s t = (s ≡ t) × (high < n → s ≡ bad_value)

suits_up_to : (high : ℕ) (e : Ev) → anchor_of e ≤ high → Suits (UpTo high) e
suits_up_to high (Ev.alias n) l = λ s t r. r.0
suits_up_to high e l = λ t. (refl, λ k. absurd (omega (arith, l, k)))

highest_more : (n : ℕ) (es : List Ev) → n ≤ highest n es
highest_more n [] = omega arith
highest_more n (e ∷ es) = let more = highest_more (max n (anchor_of e)) es in omega arith

-- The anchors of these events have such numbers.
pub up_to : (high n : ℕ) (es : List (Ev × Position)) → highest n (events_of es) ≤ high → AllSuit (UpTo high) es
up_to high n [] l = tt
up_to high n (e ∷ es) l =
    let more = highest_more (max n (anchor_of e.0)) (events_of es) in
    (suits_up_to high e.0 (omega arith), up_to high (max n (anchor_of e.0)) es l)

-- ---- where documents begin and end among nested events

-- ---- a document stands in the stream alone

abbrev IsOrdered : List Open → Type 0
IsOrdered [] = Unit {0}
IsOrdered (in_stream ∷ os) = os ≡ []
IsOrdered (before_node ∷ os) = os ≡ in_stream ∷ []
IsOrdered (after_node ∷ os) = os ≡ in_stream ∷ []
IsOrdered (o ∷ os) = IsOrdered os

ordered_after : (e : Ev) (os : List Open) → IsOrdered os → IfSome (open_after e os) IsOrdered
ordered_after Ev.document_start (in_stream ∷ os) o = ap (λ r. in_stream ∷ r) o
ordered_after Ev.document_end (before_node ∷ os) o = subst IsOrdered (sym o) refl
ordered_after Ev.document_end (after_node ∷ os) o = subst IsOrdered (sym o) refl
ordered_after Ev.stream_end (in_stream ∷ os) o = subst IsOrdered (sym o) tt
ordered_after e (before_node ∷ os) o = assumption
ordered_after e os o = assumption

-- What goes on to close is open in some way, of which P holds.
through : (P : List Open → Type 0) (test : List Open → Bool) (x : Option (List Open)) → IfSome x P → there_and test x ≡ true
    → (r : List Open) × (x ≡ Some r) × P r × (test r ≡ true)
through P test None i k = cc
through P test (Some r) i k = (r, refl, i, k)

-- After a document's end that goes on to close, the stream alone is open.
ends_alone : (es more : List Ev) (os : List Open) → IsOrdered os → closes ((es ++ Ev.document_end ∷ []) ++ more) os ≡ true
    → (fs : List Ev) → closes ((es ++ Ev.document_end ∷ []) ++ fs) os ≡ closes fs (in_stream ∷ [])
ends_alone [] more (before_node ∷ os) o h fs = ap (closes fs) o
ends_alone [] more (after_node ∷ os) o h fs = ap (closes fs) o
ends_alone [] more os o h fs = cc
ends_alone (e ∷ es) more os o h fs =
    let t = through IsOrdered (closes ((es ++ Ev.document_end ∷ []) ++ more)) (open_after e os) (ordered_after e os o) h in
    ap (there_and (closes ((es ++ Ev.document_end ∷ []) ++ fs))) t.1 ∙ ends_alone es more t.0 t.2 t.3 fs

-- ---- what follows in the stream

-- These events close the stream, maybe after its start.
abbrev inner : List Ev → List Ev
inner (Ev.stream_start ∷ es) = es
inner es = es

abbrev pub ClosesStream : List Ev → Type 0
ClosesStream es = closes (inner es) (in_stream ∷ []) ≡ true

pub closes_at_start : (es : List Ev) → IsNested es → ClosesStream es
closes_at_start es n = by es ((test_is_exact es).1 n)
  where
    by : (es : List Ev) → is_nested es ≡ true → ClosesStream es
    by (Ev.stream_start ∷ es) h = h
    by es h = cc

-- all that is nested with a document's end in it
nested_ends : (es more : List Ev) → IsNested ((es ++ Ev.document_end ∷ []) ++ more)
    → (closes more (in_stream ∷ []) ≡ true) × ((fs : List Ev) → closes fs (in_stream ∷ []) ≡ true → is_nested ((es ++ Ev.document_end ∷ []) ++ fs) ≡ true)
nested_ends es more n = by es ((test_is_exact ((es ++ Ev.document_end ∷ []) ++ more)).1 n)
  where
    by : (es : List Ev) → is_nested ((es ++ Ev.document_end ∷ []) ++ more) ≡ true
        → (closes more (in_stream ∷ []) ≡ true) × ((fs : List Ev) → closes fs (in_stream ∷ []) ≡ true → is_nested ((es ++ Ev.document_end ∷ []) ++ fs) ≡ true)
    by (Ev.stream_start ∷ es) h =
        let alone = ends_alone es more (in_stream ∷ []) refl h in
        (sym (alone more) ∙ h, λ fs k. alone fs ∙ k)
    by es h = cc

pub closes_after : (given es : List Ev) → IsNested ((given ++ Ev.document_end ∷ []) ++ es) → ClosesStream es
closes_after given es n = by es (nested_ends given es n).0
  where
    by : (es : List Ev) → closes es (in_stream ∷ []) ≡ true → ClosesStream es
    by (Ev.stream_start ∷ es) h = cc
    by es h = h

-- After a document's end the stream may end.
pub nested_so_far : (es more : List Ev) → IsNested ((es ++ Ev.document_end ∷ []) ++ more) → IsNested ((es ++ Ev.document_end ∷ []) ++ Ev.stream_end ∷ [])
nested_so_far es more n = (test_is_exact ((es ++ Ev.document_end ∷ []) ++ Ev.stream_end ∷ [])).0 ((nested_ends es more n).1 (Ev.stream_end ∷ []) refl)

-- ---- so its aliases are its own

-- an alias over this number; a node may have any
abbrev pub Over : ℕ → ℕ → Tree → Tree → Type 0
Over floor n s t = floor < n → s ≡ t

-- where a document is open
abbrev IfOpen : Type 0 → List Open → Type 0
IfOpen P [] = Unit {0}
IfOpen P (in_stream ∷ os) = IfOpen P os
IfOpen P (o ∷ os) = P

if_open : {P : Type 0} (os : List Open) → P → IfOpen P os
if_open [] p = tt
if_open (in_stream ∷ os) p = if_open os p
if_open (o ∷ os) p = p

module _ (floor : ℕ) where
  still_open : (e : Ev) (os : List Open) (low high : ℕ) → floor ≤ high → IfOpen (floor ≤ low) os → IfSome (open_after e os) (IfOpen (floor ≤ low_after e low high))
  still_open Ev.document_start (in_stream ∷ os) low high m l = m
  still_open Ev.stream_end (in_stream ∷ os) low high m l = l
  still_open Ev.document_end (before_node ∷ os) low high m l = if_open os l
  still_open Ev.document_end (after_node ∷ os) low high m l = if_open os l
  still_open Ev.sequence_end (in_sequence ∷ os) low high m l = if_open os l
  still_open Ev.mapping_end (at_key ∷ os) low high m l = if_open os l
  still_open e (before_node ∷ os) low high m l = assumption
  still_open e os low high m l = assumption

  suits_over : (e : Ev) (os : List Open) (low : ℕ) (rest : List Ev) → IfOpen (floor ≤ low) os → there_and (closes rest) (open_after e os) ≡ true → IsOver low e
      → Suits (Over floor) e
  suits_over (Ev.alias n) [] low rest l c o = cc
  suits_over (Ev.alias n) (in_stream ∷ os) low rest l c o = cc
  suits_over (Ev.alias n) (x ∷ os) low rest l c o = λ s t r. r (omega (arith, l, o))
  suits_over e os low rest l c o = λ t k. refl

  over_closed : (es : List (Ev × Position)) (more fs : List Ev) (os : List Open) (low high : ℕ) → closes (events_of es ++ more) os ≡ true → floor ≤ high
      → IfOpen (floor ≤ low) os → AreOwn low high (events_of es ++ fs) → AllSuit (Over floor) es
  over_closed [] more fs os low high c m l o = tt
  over_closed (e ∷ es) more fs os low high c m l o =
      let t = through (IfOpen (floor ≤ low_after e.0 low high)) (closes (events_of es ++ more)) (open_after e.0 os) (still_open e.0 os low high m l) c in
      let rest = over_closed es more fs t.0 (low_after e.0 low high) (max high (anchor_of e.0)) t.3 (omega arith) t.2 o.1 in
      (suits_over e.0 os low (events_of es ++ more) l c o.0, rest)

-- Where a document may begin, each alias has a number over the highest one so far.
pub over_so_far : (es : List (Ev × Position)) (more fs : List Ev) (low high : ℕ) → ClosesStream (events_of es ++ more) → AreOwn low high (events_of es ++ fs) → AllSuit (Over high) es
over_so_far [] more fs low high c o = tt
over_so_far ((Ev.stream_start, p) ∷ es) more fs low high c o = (λ t k. refl, over_closed high es more fs (in_stream ∷ []) low (max high 0) c (omega arith) tt o.1)
over_so_far (e ∷ es) more fs low high c o = over_closed high (e ∷ es) more fs (in_stream ∷ []) low high c (omega arith) tt o

-- ---- before the stream's end

abbrev IsInside : List Open → Type 0
IsInside [] = ⊥
IsInside (in_stream ∷ os) = ⊥
IsInside (before_node ∷ os) = Unit {0}
IsInside (after_node ∷ os) = Unit {0}
IsInside (o ∷ os) = IsInside os

still_inside : (e : Ev) (os : List Open) → is_end e ≡ false → IsInside os → IfSome (open_after e os) IsInside
still_inside Ev.document_end os n i = cc
still_inside Ev.stream_end os n i = cc
still_inside e (before_node ∷ os) n i = assumption
still_inside e os n i = assumption

never_ends : (es : List (Ev × Position)) (p : Position) (more : List Ev) (os : List Open) → HasNoEnd es → IsInside os
    → closes (events_of (es ++ (Ev.stream_end, p) ∷ []) ++ more) os ≡ true → ⊥
never_ends [] p more (in_stream ∷ os) n i h = i
never_ends [] p more os n i h = cc
never_ends (e ∷ es) p more os n i h =
    let t = through IsInside (closes (events_of (es ++ (Ev.stream_end, p) ∷ []) ++ more)) (open_after e.0 os) (still_inside e.0 os n.0 i) h in
    never_ends es p more t.0 n.1 t.2 t.3

none_begins : (e : Ev) (es : List (Ev × Position)) (p : Position) (more : List Ev) → is_end e ≡ false → HasNoEnd es
    → closes (e ∷ events_of (es ++ (Ev.stream_end, p) ∷ []) ++ more) (in_stream ∷ []) ≡ true → ⊥
none_begins Ev.document_start es p more n m h = never_ends es p more (before_node ∷ in_stream ∷ []) m tt h
none_begins e es p more n m h = cc

-- Before the stream's end no document began, where none ended.
pub nothing_began : (es : List (Ev × Position)) (p : Position) (more : List Ev) → HasNoEnd es → ClosesStream (events_of (es ++ (Ev.stream_end, p) ∷ []) ++ more)
    → with_events new_loader es ≡ new_loader
nothing_began [] p more n c = refl
nothing_began ((Ev.stream_start, q) ∷ []) p more n c = refl
nothing_began ((Ev.stream_start, q) ∷ e ∷ es) p more n c = absurd (none_begins e.0 es p more n.1.0 n.1.1 c)
nothing_began (e ∷ es) p more n c = absurd (none_begins e.0 es p more n.0 n.1 c)
