-- What the count of a load stands for, and how it goes on with an event.
use Rattle.std.specs.Prelude.{◌≡◌, ◌⊎◌, ℕ, ◌+◌, ◌^◌, ◌≤◌, ◌<◌, List, [], ◌∷◌, length, Some, None, Result, OnOk, IfErr}
use Rattle.defs_text.specs.Position.{Position}
use Rattle.defs_event.specs.Event.{Ev}
use Rattle.yaml_tokens.specs.ErrorReport.{ErrorReport}
use Rattle.yaml_loader.specs.Extents.{extent_at}
use Rattle.yaml_loader.specs.Made.{Made, nothing_made, made_by, IsWithin}
use Rattle.yaml_loader.specs.declared.count.Count.{Count}
use Rattle.yaml_loader.specs.declared.count.Excess.{Excess}
use Rattle.yaml_loader.specs.declared.count.Excess.TheVariants as excess
use Rattle.yaml_loader.specs.declared.count.Opened.{Opened}
use Rattle.yaml_loader.specs.declared.extent.Extent.{Extent}
use Rattle.yaml_loader.specs.declared.guard.Guard.{Guard}
use Rattle.yaml_loader.specs.declared.limits.Limits.{Limits}

-- how large the open collections are together
abbrev pub opened_size : List Opened → ℕ
opened_size [] = 0
opened_size (c ∷ outer) = c.extent.size + opened_size outer

-- None of the open collections reaches below this level.
abbrev pub AreAbove : ℕ → List Opened → Type 0
AreAbove levels [] = Unit {0}
AreAbove levels (c ∷ outer) = (c.extent.levels + length outer ≤ levels) × AreAbove levels outer

-- A node may be put into the innermost collection, and its numbers fit.
abbrev pub FitsIn : Extent → List Opened → Type 0
FitsIn x [] = Unit {0}
FitsIn x (c ∷ outer) = (c.extent.size + x.size < 2 ^ 64) × (x.levels + 1 < 2 ^ 64)

-- The count is that of what was made so far, which is within its limits.
pub record Counts (c : Count) (m : Made) : Type 0 where
  pub size : c.size ≡ m.size
  pub opened : c.opened ≡ m.opened
  pub anchors : (n : ℕ) → extent_at n c.anchors.entries ≡ extent_at n m.anchors
  pub within : IsWithin c.limits m
  pub fits : opened_size m.opened ≤ m.size
  pub above : AreAbove m.levels m.opened
  pub size_fits : c.limits.size < 2 ^ 64
  pub levels_fit : c.limits.levels < 2 ^ 64

-- What would be made exceeds the limits so. Of refused memory nothing is known.
abbrev pub IsExcess : Excess → Limits → Made → Type 0
IsExcess excess.Levels limits m = limits.levels < m.levels
IsExcess excess.Size limits m = limits.size < m.size
IsExcess excess.OutOfMemory limits m = Unit {0}

-- A function on a count does this with what was made, or tells why that would exceed the limits.
pub record Counted (old : Count) (step : Made → Made) (result : Result (Unit {0}) Excess) (new : Count) : Type 0 where
  pub ok : (m : Made) → Counts old m → OnOk result (Counts new (step m))
  pub err : (m : Made) → Counts old m → IfErr result (λ x. IsExcess x old.limits (step m))
  pub limits : new.limits ≡ old.limits

-- A guard that was handed no event.
pub record IsNew {R : Type 0} (g : Guard R) : Type 0 where
  pub counts : Counts g.count nothing_made
  pub goes_on : g.stopped ≡ None

-- What a guard does with an event: it counts what a load would make of it, and hands it to its receiver, which does this with it; or it
-- stops, before the receiver has it, where that would exceed the limits.
pub record Guards {R : Type 0} (takes : R → Ev → Position → Result (Unit {0}) ErrorReport → R → Type 0) (before : Guard R) (e : Ev) (p : Position) (result : Result (Unit {0}) ErrorReport) (after : Guard R) : Type 0 where
  pub counts : (m : Made) → Counts before.count m → OnOk result (Counts after.count (made_by m e))
  pub hands_on : OnOk result (takes before.receiver e p result after.receiver)
  pub goes_on : OnOk result (after.stopped ≡ before.stopped)
  pub refuses : IfErr result (λ f. ((after.stopped ≡ before.stopped) × takes before.receiver e p result after.receiver)
      ⊎ ((x : Excess) × (after.stopped ≡ Some (x, p)) × (after.receiver ≡ before.receiver) × ((m : Made) → Counts before.count m → IsExcess x before.count.limits (made_by m e))))
  pub limits : after.count.limits ≡ before.count.limits
