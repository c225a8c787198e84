-- After the first events of a stream, no open node's anchor is finished: anchors are numbered as they come.
use Rattle.proof_loads.proofs.Common.{[], AliasesInsideTheirNodeAreBadValues, ap, are_allowed, arith, at_work, bad_value, Bool, Ev, events_of, hash, if◌then◌else◌, inl, inr, IsOpen, items_of, List, Loader, loader_after, map, named, Names, names_after, ne_eqb, new_loader, no_names, None, Opened, opened_mapping, opened_sequence, Option, option_map, pairs_of, perhaps_resolved, Position, Raw, reads, refl, resolved_event, Some, subst, suc, Tree, under_name, Unfinished, with_anchor, with_event, with_event_at, with_events, with_mapping_end, with_root, with_sequence_end, with_start, with_tree, ℕ, ◌++◌, ◌<◌, ◌∷◌, ◌≡◌, ◌≤◌, ◌⊎◌, IfSome}
use Rattle.defs_tree.specs.Pairs.{has_key, insert}
use Rattle.defs_event.specs.Scalar.{scalar_tree}
use Rattle.defs_event.specs.Anchors.{Anchors, aliased, finished}
use Rattle.defs_event.specs.Unfinished.{Step, with_node}
use Rattle.defs_event.proofs.NameLemmas.{both_some}

-- ---- numbers of anchors

abbrev anchor_of : Opened → ℕ
anchor_of (opened_sequence a ts) = a
anchor_of (opened_mapping a ps waiting) = a

-- those of open collections, the innermost first; 0 is none
abbrev numbers : List Opened → List ℕ
numbers opened = map anchor_of opened

abbrev IsIn : ℕ → List ℕ → Type 0
IsIn n [] = ⊥
IsIn n (k ∷ ns) = (k ≡ n) ⊎ IsIn n ns

-- each is greater than those around it
abbrev AreSorted : List ℕ → Type 0
AreSorted [] = Unit {0}
AreSorted (k ∷ ns) = ((n : ℕ) → IsIn n ns → 0 < k → n < k) × AreSorted ns

-- After m anchors: the finished ones are numbered from 1 to m, those of the open collections are not finished, and numbered as they came.
record Fits (m : ℕ) (anchors : Anchors) (ns : List ℕ) : Type 0 where
  fresh : (n : ℕ) → (0 < n → m < n) → aliased n anchors ≡ bad_value
  held : (n : ℕ) → IsIn n ns → (n ≤ m) × (aliased n anchors ≡ bad_value)
  sorted : AreSorted ns

later : (m n : ℕ) (anchors : Anchors) (ns : List ℕ) → m ≤ n → Fits m anchors ns → Fits n anchors ns
later m n anchors ns le f = record { fresh = λ k e. f.fresh k (λ pos. omega (arith, e pos, le)); held = λ k o. (omega (arith, (f.held k o).0, le), (f.held k o).1); sorted = f.sorted }

not_at : (n : ℕ) (a : ℕ × Tree) (anchors : Anchors) → (n ≡ a.0 → ⊥) → aliased n (a ∷ anchors) ≡ aliased n anchors
not_at n a anchors ne = ap (λ b. if b then a.1 else aliased n anchors) (ne_eqb n a.0 ne)

-- A node is finished inside collections whose anchors are less than its own.
finishes : (m a : ℕ) (t : Tree) (anchors : Anchors) (ns : List ℕ) → a ≤ m → ((n : ℕ) → IsIn n ns → 0 < a → n < a) → Fits m anchors ns → Fits m (finished a t anchors) ns
finishes m a t anchors ns h e f = grind (arith, suc, not_at)

-- ---- unfinished readings

abbrev IsStillOpen : ℕ → Unfinished → Type 0
IsStillOpen m u = Fits m u.anchors (numbers u.opened)

abbrev OfStep : ℕ → Step → Type 0
OfStep m (reads u) = IsStillOpen m u
OfStep m _ = Unit {0}

of_tree : (m : ℕ) (t : Tree) (u : Unfinished) (outer : List Opened) → Fits m u.anchors (numbers outer) → OfStep m (with_tree t u outer)
of_tree m t u outer h = grind (arith, with_root, opened_mapping, has_key, insert)

of_node : (m a : ℕ) (t : Tree) (u : Unfinished) (outer : List Opened) → Fits m u.anchors (a ∷ numbers outer) → OfStep m (with_node a t u outer)
of_node m a t u outer f =
    of_tree m t (record u { anchors = finished a t u.anchors }) outer
    (finishes m a t u.anchors (numbers outer) (f.held a (inl refl)).0 f.sorted.0 (record { fresh = f.fresh; held = λ n o. f.held n (inr o); sorted = f.sorted.1 }))

of_sequence_end : (m : ℕ) (u : Unfinished) (opened : List Opened) → Fits m u.anchors (numbers opened) → OfStep m (with_sequence_end u opened)
of_sequence_end m u (opened_sequence a ts ∷ outer) f = of_node m a (Tree.array (items_of ts)) u outer f
of_sequence_end m u opened f = tt

of_mapping_end : (m : ℕ) (u : Unfinished) (opened : List Opened) → Fits m u.anchors (numbers opened) → OfStep m (with_mapping_end u opened)
of_mapping_end m u (opened_mapping a ps None ∷ outer) f = of_node m a (hash (pairs_of ps)) u outer f
of_mapping_end m u opened f = tt

-- a node's start or scalar has no anchor, or a number after m; n are the anchors after it
abbrev IsNext : (m a n : ℕ) → Type 0
IsNext m a n = (m ≤ n) × (a ≤ n) × (0 < a → m < a)

next_fits : (m a n : ℕ) (anchors : Anchors) (ns : List ℕ) → IsNext m a n → Fits m anchors ns → Fits n anchors (a ∷ ns)
next_fits m a n anchors ns i f =
    let more = later m n anchors ns i.0 f in
    record {
      fresh = more.fresh;
      held = λ k o. elim o [ inl e ↦ (omega (arith, e, i.1), f.fresh k (λ pos. rw (← e) (i.2 (rw (← e) at pos)))) | inr x ↦ more.held k x ];
      sorted = (λ k o pos. omega (arith, (f.held k o).0, i.2 pos), f.sorted);
    }

of_start : (m n : ℕ) (c : Opened) (u : Unfinished) (opened : List Opened) (root : Option Tree) → IsNext m (anchor_of c) n → Fits m u.anchors (numbers opened) → OfStep n (with_start c u opened root)
of_start m n c u [] (Some r) i f = tt
of_start m n c u [] None i f = next_fits m (anchor_of c) n u.anchors [] i f
of_start m n c u (d ∷ outer) root i f = next_fits m (anchor_of c) n u.anchors (numbers (d ∷ outer)) i f

-- ---- events by their names

abbrev Follows : ℕ → ℕ → Ev → Type 0
Follows m n (Ev.scalar text style a tag) = IsNext m a n
Follows m n (Ev.sequence_start a tag) = IsNext m a n
Follows m n (Ev.mapping_start a tag) = IsNext m a n
Follows m n _ = m ≤ n

of_event : (m n : ℕ) (u : Unfinished) (e : Ev) → Follows m n e → IsStillOpen m u → OfStep n (with_event u e)
of_event m n u Ev.document_end le f = let fits = later m n u.anchors (numbers u.opened) le f in grind arith
of_event m n u (Ev.alias k) le f = of_tree n (aliased k u.anchors) u u.opened (later m n u.anchors (numbers u.opened) le f)
of_event m n u (Ev.scalar text style a tag) i f = of_node n a (scalar_tree text style tag) u u.opened (next_fits m a n u.anchors (numbers u.opened) i f)
of_event m n u (Ev.sequence_start a tag) i f = of_start m n (opened_sequence a []) u u.opened u.root i f
of_event m n u Ev.sequence_end le f = of_sequence_end n u u.opened (later m n u.anchors (numbers u.opened) le f)
of_event m n u (Ev.mapping_start a tag) i f = of_start m n (opened_mapping a [] None) u u.opened u.root i f
of_event m n u Ev.mapping_end le f = of_mapping_end n u u.opened (later m n u.anchors (numbers u.opened) le f)
of_event m n u e le f = later m n u.anchors (numbers u.opened) le f

numbered : (keep_tags : Bool) (s : Names) (r : Raw) → IfSome (resolved_event s r) (Follows s.count (names_after keep_tags s r).count)
numbered keep_tags s r = grind (arith, are_allowed, option_map, under_name, with_anchor, perhaps_resolved)

-- ---- loaders

abbrev OfLoader : ℕ → Loader → Type 0
OfLoader m (at_work u) = IsStillOpen m u
OfLoader m _ = Unit {0}

of_event_at : (m n : ℕ) (l : Loader) (e : Ev) (p : Position) → Follows m n e → OfLoader m l → OfLoader n (with_event_at l e p)
of_event_at m n l e p h f = grind (arith, loader_after, with_event, of_event)

stands_after : (keep_tags : Bool) (s : Names) (rs : List Raw) (l : Loader) (before : List (Ev × Position)) (more : List Ev)
    → named keep_tags s rs ≡ Some (events_of before ++ more) → OfLoader s.count l → (m : ℕ) × OfLoader m (with_events l before)
stands_after k s rs l [] more q h = (s.count, h)
stands_after k s [] l (e ∷ before) more q h = cc
stands_after k s (r ∷ rs) l (e ∷ before) more q h =
    let f = both_some (resolved_event s r) (named k (names_after k s r) rs) (e.0 ∷ (events_of before ++ more)) q in
    let is : resolved_event s r ≡ Some e.0 = cc (f.is_first, f.whole) in
    let rest : named k (names_after k s r) rs ≡ Some (events_of before ++ more) = cc (f.are_more, f.whole) in
    stands_after k (names_after k s r) rs (with_event_at l e.0 e.1) before more rest
    (of_event_at s.count (names_after k s r).count l e.0 e.1 (rw is at (numbered k s r)) h)

open_in : (n : ℕ) (opened : List Opened) → IsOpen n opened → IsIn n (numbers opened)
open_in n [] o = o
open_in n (c ∷ outer) o = grind (arith, open_in n outer)

pub aliases_are_bad : AliasesInsideTheirNodeAreBadValues
aliases_are_bad keep_tags tokens before n more u stream work is_open =
    let start : Fits 0 [] [] = record { fresh = λ k e. refl; held = λ k o. absurd o; sorted = tt } in
    let after = stands_after keep_tags no_names stream.raws new_loader before (Ev.alias n ∷ more) stream.has_events start in
    let f : IsStillOpen after.0 u = subst (OfLoader after.0) work after.1 in
    ap (λ t. with_tree t u u.opened) (f.held n (open_in n u.opened is_open)).1
