-- The names of a stream where the setting of `keep_tags` changes: by the settings with which the first events were read, one for each
-- event, and by the setting for the events to come. A document's handles count as the setting at the document's start says.
use Rattle.std.specs.Prelude.{◌≡◌, List, [], ◌∷◌, Bool, Option, Some}
use Rattle.defs_event.specs.Event.{Ev}
use Rattle.defs_event.specs.Raw.{Raw}
use Rattle.defs_event.specs.Names.{Names, named, both, names_after, names_after_all, resolved_event}

-- All events with their names resolved, or nothing where one of them has none.
abbrev pub named_since : (earlier : List Bool) → (now : Bool) → Names → List Raw → Option (List Ev)
named_since [] now s es = named now s es
named_since (keep_tags ∷ earlier) now s [] = Some []
named_since (keep_tags ∷ earlier) now s (e ∷ es) = both (resolved_event s e) (named_since earlier now (names_after keep_tags s e) es)

-- the names after all these events
abbrev pub names_since : (earlier : List Bool) → (now : Bool) → Names → List Raw → Names
names_since [] now s es = names_after_all now s es
names_since (keep_tags ∷ earlier) now s [] = s
names_since (keep_tags ∷ earlier) now s (e ∷ es) = names_since earlier now (names_after keep_tags s e) es

-- All settings are this one.
abbrev pub AreAll : Bool → List Bool → Type 0
AreAll keep_tags [] = Unit {0}
AreAll keep_tags (k ∷ ks) = (k ≡ keep_tags) × AreAll keep_tags ks
