-- Loaders that are reached from one another by events.
use Rattle.std.specs.Prelude.{List, [], ◌∷◌, Ok}
use Rattle.defs_text.specs.Position.{Position}
use Rattle.defs_event.specs.Event.{Ev}
use Rattle.yaml_loader.specs.declared.loader.YamlLoader.{YamlLoader}
use Rattle.yaml_loader.specs.Loading.{Takes}

-- The second loader is the first after these events, each with `Ok`.
pub data Reaches : YamlLoader → List (Ev × Position) → YamlLoader → Type 0 where
  here : (l : YamlLoader) → Reaches l [] l
  after : {l m n : YamlLoader} {e : Ev} {p : Position} {es : List (Ev × Position)} → Takes l e p (Ok tt) m → Reaches m es n → Reaches l ((e, p) ∷ es) n
