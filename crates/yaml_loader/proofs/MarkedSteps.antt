-- What the marks so far stand for, after each kind of step: what stands in a table stands in a longer one. Marks in a row, and those of open collections.
use Rattle.yaml_loader.proofs.Common.{[], alias_mark, alias_of, aliased_marks, AllOpenStand, AllStand, AnchorsStand, ap, append_assoc, arith, Begun, Bool, drop, drop-append-le, drop-append_seam, Ev, false, finished_marks, Global, Goes, GoesWith, HasStanding, Holds, if◌then◌else◌, IsUnder, leaf, leaf_mark, length, length-append, length-drop, List, Mark, mark_under, MarkedAnchors, Marking, Marks, marks, nat_eq, no_parts, None, OpenMarks, Option, part, Parts, parts_at, parts_of, PartsStand, PerhapsStands, Position, refl, reverse, reverse-append, reverse-reverse, Some, Stands, subst, suc, sym, take, take-append-le, take-append_seam, take-length, true, unwrap_or, Vec, zero, ℕ, ◌++◌, ◌+◌, ◌-◌, ◌<◌, ◌∙◌, ◌∷◌, ◌≡◌, ◌≤◌}
use Rattle.defs_event.specs.Marking as defs

-- ---- a longer table

module _ (table more : List Mark) where
  same_parts : (m : Mark) → m.first + m.count ≤ length table → parts_at (table ++ more) m ≡ parts_at table m
  same_parts m within =
      let first : m.first ≤ length table = omega arith in
      let count : m.count ≤ length (drop m.first table) = omega (arith, length-drop m.first table) in
      ap (take m.count) (drop-append-le m.first table more first) ∙ take-append-le m.count (drop m.first table) more count

  mutual
    pub grown : (m : Mark) (s : Marks) → Stands table m s → Stands (table ++ more) m s
    grown m (marks own tree ps) h =
        (h.0, h.1, omega (arith, h.2, length-append table more), subst (λ ms. PartsStand (table ++ more) ms ps) (sym (same_parts m h.2)) (grown_parts (parts_at table m) ps h.3))

    pub grown_parts : (ms : List Mark) (ps : Parts) → PartsStand table ms ps → PartsStand (table ++ more) ms ps
    grown_parts [] no_parts h = tt
    grown_parts (m ∷ ms) (part s ps) h = (grown m s h.0, grown_parts ms ps h.1)
    grown_parts ms ps h = absurd h

  pub grown_perhaps : (m : Option Mark) (s : Option Marks) → PerhapsStands table m s → PerhapsStands (table ++ more) m s
  grown_perhaps None None h = tt
  grown_perhaps (Some m) (Some s) h = grown m s h
  grown_perhaps m s h = absurd h

  pub grown_open : (bs : List Begun) (waiting : List Mark) (os : List OpenMarks) → AllOpenStand table bs waiting os → AllOpenStand (table ++ more) bs waiting os
  grown_open [] waiting [] h = h
  grown_open (b ∷ bs) waiting (o ∷ os) (outer, (r, h)) =
      (outer, (record { mine = r.mine; waits = r.waits; before = r.before; anchor = r.anchor; start = r.start; stand = grown_parts r.mine (parts_of o.parts) r.stand }, grown_open bs outer os h))
  grown_open bs waiting os h = absurd h

  pub grown_anchors : (entries : List (ℕ × Mark)) (anchors : MarkedAnchors) → AnchorsStand table entries anchors → AnchorsStand (table ++ more) entries anchors
  grown_anchors entries anchors h n p = grown (alias_mark p (mark_under n entries)) (aliased_marks n p anchors) (h n p)

-- ---- marks in a row

-- one more mark in a row
pub row_and : (table ms : List Mark) (ss : List Marks) (m : Mark) (s : Marks) → AllStand table ms ss → Stands table m s → AllStand table (ms ++ m ∷ []) (ss ++ s ∷ [])
row_and table [] [] m s h r = (r, tt)
row_and table (n ∷ ms) (x ∷ ss) m s h r = (h.0, row_and table ms ss m s h.1 r)
row_and table ms ss m s h r = absurd h

-- a part of the innermost collection
pub open_and : (table : List Mark) (b : Begun) (bs : List Begun) (waiting : List Mark) (o : OpenMarks) (os : List OpenMarks) (m : Mark) (s : Marks)
    → AllOpenStand table (b ∷ bs) waiting (o ∷ os) → Stands table m s → AllOpenStand table (b ∷ bs) (waiting ++ m ∷ []) (record o { parts = o.parts ++ s ∷ [] } ∷ os)
open_and table b bs waiting o os m s (outer, (r, h)) stands =
    let waits = ap (λ w. w ++ m ∷ []) r.waits ∙ append_assoc outer r.mine (m ∷ []) in
    let stand = row_and table r.mine o.parts m s r.stand stands in
    (outer, (record { mine = r.mine ++ m ∷ []; waits = waits; before = r.before; anchor = r.anchor; start = r.start; stand = stand }, h))

-- the innermost collection, whose parts go into the table
pub record Closed (table : List Mark) (b : Begun) (bs : List Begun) (waiting : List Mark) (o : OpenMarks) (os : List OpenMarks) : Type 0 where
  pub within : b.before ≤ length waiting
  pub outer : AllOpenStand table bs (take b.before waiting) os
  pub parts : AllStand table (drop b.before waiting) o.parts
  pub anchor : b.anchor ≡ o.anchor
  pub start : b.start ≡ o.start

pub closed : (table : List Mark) (b : Begun) (bs : List Begun) (waiting : List Mark) (o : OpenMarks) (os : List OpenMarks) → AllOpenStand table (b ∷ bs) waiting (o ∷ os) → Closed table b bs waiting o os
closed table b bs waiting o os (outer, (r, h)) =
    let taken : take b.before waiting ≡ outer = ap (λ n. take n waiting) r.before ∙ ap (take (length outer)) r.waits ∙ take-append_seam outer r.mine in
    let left : drop b.before waiting ≡ r.mine = ap (λ n. drop n waiting) r.before ∙ ap (drop (length outer)) r.waits ∙ drop-append_seam outer r.mine in
    record {
      within = omega (arith, r.before, ap length r.waits, length-append outer r.mine);
      outer = subst (λ w. AllOpenStand table bs w os) (sym taken) h;
      parts = subst (λ w. AllStand table w o.parts) (sym left) r.stand;
      anchor = r.anchor;
      start = r.start;
    }

-- the mark of a collection whose parts come last in the table
pub last_in_table : (table ms : List Mark) (m : Mark) (ps : Parts) → m.first ≡ length table → m.count ≡ length ms → PartsStand table ms ps → Stands (table ++ ms) m (marks m.own m.tree ps)
last_in_table table ms m ps first count h =
    let parts : parts_at (table ++ ms) m ≡ ms = ap (λ n. take m.count (drop n (table ++ ms))) first ∙ ap (take m.count) (drop-append_seam table ms) ∙ ap (λ n. take n ms) count ∙ take-length ms in
    (refl, refl, omega (arith, first, count, length-append table ms), subst (λ qs. PartsStand (table ++ ms) qs ps) (sym parts) (grown_parts table ms ms ps h))

-- ---- aliases

alias_stands : (table : List Mark) (m : Mark) (s : Marks) (p : Position) → Stands table m s → Stands table (record m { own = p }) (alias_of p s)
alias_stands table m (marks own tree ps) p h = (refl, h.1, h.2, h.3)

pub one_under : (table : List Mark) (old new : List (ℕ × Mark)) (anchors : MarkedAnchors) (a : ℕ) (m : Mark) (s : Marks)
    → Stands table m s → IsUnder (suc a) m old new → AnchorsStand table old anchors → AnchorsStand table new (finished_marks (suc a) s anchors)
one_under table old new anchors a m s stands under h n p = by (nat_eq n (suc a)) (mark_under n new) (under n)
  where
    by : (b : Bool) (o : Option Mark) → o ≡ (if b then Some m else mark_under n old) → Stands table (alias_mark p o) (if b then alias_of p s else aliased_marks n p anchors)
    by true o e = subst (λ x. Stands table (alias_mark p x) (alias_of p s)) (sym e) (alias_stands table m s p stands)
    by false o e = subst (λ x. Stands table (alias_mark p x) (aliased_marks n p anchors)) (sym e) (h n p)

-- ---- all of it

module _ {table documents : List Mark} {opened : List Begun} {waiting : List Mark} {root : Option Mark} {entries : List (ℕ × Mark)} (x : defs.Marking) where
  -- a complete node in a collection
  pub inside_holds : (m : Mark) (s : Marks) → (opened ≡ [] → ⊥) → Stands table m s → Holds table documents opened waiting root entries x
      → Holds table documents opened (waiting ++ m ∷ []) root entries (defs.with_part s x x.opened)
  inside_holds m s some stands h = by (reverse opened) refl x.opened h.of_opened
    where
      by : (bs : List Begun) → reverse opened ≡ bs → (os : List OpenMarks) → AllOpenStand table bs waiting os → Holds table documents opened (waiting ++ m ∷ []) root entries (defs.with_part s x os)
      by [] e os r = absurd (some (sym (reverse-reverse opened) ∙ ap reverse e))
      by (b ∷ bs) e [] r = absurd r
      by (b ∷ bs) e (o ∷ os) r = record {
        of_documents = h.of_documents;
        of_opened = subst (λ cs. AllOpenStand table cs (waiting ++ m ∷ []) (record o { parts = o.parts ++ s ∷ [] } ∷ os)) (sym e) (open_and table b bs waiting o os m s r stands);
        of_root = h.of_root;
        of_anchors = h.of_anchors;
      }

  -- a document ends
  pub document_holds : (p : Position) → Holds table documents opened waiting root entries x
      → Holds table (documents ++ unwrap_or root (leaf_mark p) ∷ []) opened waiting None entries (defs.with_event_marked x Ev.document_end p)
  document_holds p h = record {
    of_documents = row_and table documents x.documents (unwrap_or root (leaf_mark p)) (unwrap_or x.root (leaf p)) h.of_documents (by root x.root h.of_root);
    of_opened = h.of_opened;
    of_root = tt;
    of_anchors = h.of_anchors;
  }
    where
      by : (m : Option Mark) (s : Option Marks) → PerhapsStands table m s → Stands table (unwrap_or m (leaf_mark p)) (unwrap_or s (leaf p))
      by None None r = (refl, refl, omega arith, tt)
      by (Some m) (Some s) r = r
      by m s r = absurd r

outer_part : (s : Marks) (x : defs.Marking) (os : List OpenMarks) → defs.with_part s x os ≡ defs.with_part s (record x { opened = os }) os
outer_part s x [] = refl
outer_part s x (o ∷ os) = refl

-- ---- the steps of the code

-- An anchor is finished.
pub anchored : (a : ℕ) (m : Mark) (old mid new : Marking) → 0 < a → mid ≡ record old { anchors = mid.anchors } → IsUnder a m old.anchors.entries mid.anchors.entries
    → GoesWith m mid (λ s x. defs.with_part s x x.opened) new → GoesWith m old (λ s x. defs.with_anchored a s x x.opened) new
anchored zero m old mid new some same under goes = absurd (omega arith)
anchored (suc a) m old mid new some same under goes = λ s x stands h.
    let y : defs.Marking = record x { anchors = finished_marks (suc a) s x.anchors } in
    let holds : HasStanding (record old { anchors = mid.anchors }) y = record {
      of_documents = h.of_documents;
      of_opened = h.of_opened;
      of_root = h.of_root;
      of_anchors = one_under old.table.items old.anchors.entries mid.anchors.entries x.anchors a m s stands under h.of_anchors;
    } in
    goes s y (subst (λ z. Stands z.table.items m s) (sym same) stands) (subst (λ z. HasStanding z y) (sym same) holds)

pub not_anchored : (a : ℕ) (m : Mark) (old new : Marking) → a ≡ 0 → GoesWith m old (λ s x. defs.with_part s x x.opened) new → GoesWith m old (λ s x. defs.with_anchored a s x x.opened) new
not_anchored a m old new none goes = subst (λ n. GoesWith m old (λ s x. defs.with_anchored n s x x.opened) new) (sym none) goes

-- The innermost collection ends: its parts go into the table, and its node to those around it.
pub closes : (b : Begun) (n : ℕ) (m : Mark) (old new : Marking) (t w : Vec Mark Global) (cs : Vec Begun Global) → old.opened.items ≡ cs.items ++ b ∷ []
    → (b.before ≤ length old.waiting.items → n ≡ b.before) → t.items ≡ old.table.items ++ drop n old.waiting.items → w.items ≡ take n old.waiting.items
    → m.own ≡ b.start → m.tree ≡ b.start → m.first ≡ length old.table.items → m.count ≡ length old.waiting.items - n
    → GoesWith m (record old { table = t; waiting = w; opened = cs }) (λ s x. defs.with_anchored b.anchor s x x.opened) new → Goes old (λ x. defs.with_close x x.opened) new
closes b n m old new t w cs opened before table waiting own tree first count goes x h =
    by x.opened refl (subst (λ bs. AllOpenStand old.table.items bs old.waiting.items x.opened) (ap reverse opened ∙ reverse-append cs.items (b ∷ [])) h.of_opened)
  where
    by : (os : List OpenMarks) → x.opened ≡ os → AllOpenStand old.table.items (b ∷ reverse cs.items) old.waiting.items os → HasStanding new (defs.with_close x x.opened)
    by [] e r = absurd r
    by (o ∷ os) e r =
        let c = closed old.table.items b (reverse cs.items) old.waiting.items o os r in
        let same = before c.within in
        let more = drop b.before old.waiting.items in
        let longer : t.items ≡ old.table.items ++ more = table ∙ ap (λ k. old.table.items ++ drop k old.waiting.items) same in
        let left : w.items ≡ take b.before old.waiting.items = waiting ∙ ap (λ k. take k old.waiting.items) same in
        let node = marks o.start o.start (parts_of o.parts) in
        let y : defs.Marking = record x { opened = os } in
        let s = last_in_table old.table.items more m (parts_of o.parts) first (omega (arith, count, same, length-drop b.before old.waiting.items)) c.parts in
        let stands : Stands t.items m node = rw longer (own ∙ c.start, tree ∙ c.start, s.2, s.3) in
        let holds : HasStanding (record old { table = t; waiting = w; opened = cs }) y = rw (longer, left) (record {
          of_documents = grown_parts old.table.items more old.documents.items (parts_of x.documents) h.of_documents;
          of_opened = grown_open old.table.items more (reverse cs.items) (take b.before old.waiting.items) os c.outer;
          of_root = grown_perhaps old.table.items more old.root x.root h.of_root;
          of_anchors = grown_anchors old.table.items more old.anchors.entries x.anchors h.of_anchors;
        }) in
        let is = ap (defs.with_close x) e ∙ outer_part node (record x { anchors = finished_marks o.anchor node x.anchors }) os ∙ ap (λ n. defs.with_anchored n node y os) (sym c.anchor) in
        subst (HasStanding new) (sym is) (goes node y stands holds)

pub all_dropped : {A : Type 0} (xs : List A) (n : ℕ) → take (length xs - n) (drop n xs) ≡ drop n xs
all_dropped xs n = ap (λ k. take k (drop n xs)) (sym (length-drop n xs)) ∙ take-length (drop n xs)
