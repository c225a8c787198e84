-- Laws of the positions of nodes: each is the contract of the function of `src/laws.rt` that its comment names.
use Rattle.std.specs.Prelude.{◌≡◌, List}
use Rattle.defs_text.specs.Position.{Position}
use Rattle.defs_event.specs.Event.{Ev}
use Rattle.defs_event.specs.Unfinished.{Unfinished, new_loader, at_work, with_events}
use Rattle.defs_event.specs.Fits.{AllFit}
use Rattle.defs_event.specs.Marking.{marked_documents}

-- `marks_fit_their_trees`
abbrev pub MarksFitTheirTrees : Type 0
MarksFitTheirTrees = (events : List (Ev × Position)) (u : Unfinished) → with_events new_loader events ≡ at_work u → AllFit u.documents (marked_documents events)
