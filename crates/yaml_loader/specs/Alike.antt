-- When two readings are the same but for what no alias can tell apart: of the trees that were finished under one number,
-- an alias means the last alone. YAML 1.2, section 3.2.2.2 (anchors and aliases).
use Rattle.std.specs.Prelude.{◌≡◌, ℕ}
use Rattle.defs_event.specs.Anchors.{aliased}
use Rattle.defs_event.specs.Unfinished.{Unfinished, Step, reads, Loader, at_work, noted, refused}

-- The documents, the open collections and the root are the same, and each alias has the same tree.
pub record AreAlike (u v : Unfinished) : Type 0 where
  pub documents : u.documents ≡ v.documents
  pub opened : u.opened ≡ v.opened
  pub root : u.root ≡ v.root
  pub aliases : (n : ℕ) → aliased n u.anchors ≡ aliased n v.anchors

-- The event is read, to a reading like this one.
abbrev pub ReadsTo : Step → Unfinished → Type 0
ReadsTo (reads u) v = AreAlike u v
ReadsTo _ v = ⊥

-- Two loaders stand alike: both at work with readings alike, or both stopped by the same.
abbrev pub StandAlike : Loader → Loader → Type 0
StandAlike (at_work u) (at_work v) = AreAlike u v
StandAlike (noted documents key position) l = noted documents key position ≡ l
StandAlike (refused documents position) l = refused documents position ≡ l
StandAlike _ _ = ⊥
