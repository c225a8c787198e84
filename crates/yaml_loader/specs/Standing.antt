-- What marks so far stand for: the marks of the definitions.
use Rattle.std.specs.Prelude.{◌≡◌, ℕ, ◌+◌, ◌≤◌, nat_eq, if◌then◌else◌, List, [], ◌∷◌, ◌++◌, length, reverse, Option, Some, None}
use Rattle.std.specs.BTreeMap.{is_at}
use Rattle.std.specs.Map.{lookup}
use Rattle.std.specs.Ordering.{nat_cmp}
use Rattle.defs_text.specs.Position.{Position}
use Rattle.defs_event.specs.Marking as defs
use Rattle.defs_event.specs.Marking.{OpenMarks, MarkedAnchors, aliased_marks}
use Rattle.defs_event.specs.Marks.{Marks, marks, Parts, no_parts, part, parts_of}
use Rattle.yaml_loader.specs.MarkedLeaf.{alias_mark}
use Rattle.yaml_loader.specs.Table.{parts_at}
use Rattle.yaml_loader.specs.declared.mark.Mark.{Mark}
use Rattle.yaml_loader.specs.declared.marking.Begun.{Begun}
use Rattle.yaml_loader.specs.declared.marking.Marking.{Marking}

-- ---- a mark in a table

abbrev mutual
  -- The mark, with those of its parts in the table, stands for these marks.
  pub Stands : List Mark → Mark → Marks → Type 0
  Stands table m (marks own tree ps) = (m.own ≡ own) × (m.tree ≡ tree) × (m.first + m.count ≤ length table) × PartsStand table (parts_at table m) ps

  pub PartsStand : List Mark → List Mark → Parts → Type 0
  PartsStand table [] no_parts = Unit {0}
  PartsStand table (m ∷ ms) (part s ps) = Stands table m s × PartsStand table ms ps
  PartsStand table _ _ = ⊥

-- marks in a row
abbrev pub AllStand : List Mark → List Mark → List Marks → Type 0
AllStand table ms ss = PartsStand table ms (parts_of ss)

abbrev pub PerhapsStands : List Mark → Option Mark → Option Marks → Type 0
PerhapsStands table None None = Unit {0}
PerhapsStands table (Some m) (Some s) = Stands table m s
PerhapsStands table _ _ = ⊥

-- ---- the collections that are open, the innermost first

-- the marks that wait are those of outer collections, and then those of this one
pub record OpenStands (table : List Mark) (b : Begun) (waiting outer : List Mark) (o : OpenMarks) : Type 0 where
  pub mine : List Mark
  pub waits : waiting ≡ outer ++ mine
  pub before : b.before ≡ length outer
  pub anchor : b.anchor ≡ o.anchor
  pub start : b.start ≡ o.start
  pub stand : AllStand table mine o.parts

abbrev pub AllOpenStand : List Mark → List Begun → List Mark → List OpenMarks → Type 0
AllOpenStand table [] waiting [] = waiting ≡ []
AllOpenStand table (b ∷ bs) waiting (o ∷ os) = (outer : List Mark) × (OpenStands table b waiting outer o × AllOpenStand table bs outer os)
AllOpenStand table _ waiting _ = ⊥

-- ---- anchors

-- the mark under a number
abbrev pub mark_under : ℕ → List (ℕ × Mark) → Option Mark
mark_under n entries = lookup (is_at (nat_cmp n)) entries

-- The second entries are the first with this mark under the number.
abbrev pub IsUnder : ℕ → Mark → List (ℕ × Mark) → List (ℕ × Mark) → Type 0
IsUnder a m old new = (n : ℕ) → mark_under n new ≡ (if nat_eq n a then Some m else mark_under n old)

-- an alias of any number
abbrev pub AnchorsStand : List Mark → List (ℕ × Mark) → MarkedAnchors → Type 0
AnchorsStand table entries anchors = (n : ℕ) (p : Position) → Stands table (alias_mark p (mark_under n entries)) (aliased_marks n p anchors)

-- ---- all of it

-- The parts of marks so far stand for the marks of the definitions.
pub record Holds (table documents : List Mark) (opened : List Begun) (waiting : List Mark) (root : Option Mark) (entries : List (ℕ × Mark)) (x : defs.Marking) : Type 0 where
  pub of_documents : AllStand table documents x.documents
  pub of_opened : AllOpenStand table (reverse opened) waiting x.opened
  pub of_root : PerhapsStands table root x.root
  pub of_anchors : AnchorsStand table entries x.anchors

abbrev pub HasStanding : Marking → defs.Marking → Type 0
HasStanding s x = Holds s.table.items s.documents.items s.opened.items s.waiting.items s.root s.anchors.entries x

-- What it stands for goes on so.
abbrev pub Goes : Marking → (defs.Marking → defs.Marking) → Marking → Type 0
Goes old step new = (x : defs.Marking) → HasStanding old x → HasStanding new (step x)

-- The same, with a node that has this mark.
abbrev pub GoesWith : Mark → Marking → (Marks → defs.Marking → defs.Marking) → Marking → Type 0
GoesWith m old step new = (s : Marks) (x : defs.Marking) → Stands old.table.items m s → HasStanding old x → HasStanding new (step s x)
