-- What a loader gives at the end of the events. YAML 1.2, section 3.1 (construction).
use Rattle.std.specs.Prelude.{◌≡◌, false, Some, Result, Ok, Err, Vec}
use Rattle.std.specs.declared.alloc.Global.{Global}
use Rattle.defs_tree.specs.Tree.{Tree}
use Rattle.yaml_tokens.specs.ErrorReport.{ErrorReport}
use Rattle.yaml_tree.specs.View.{items_view}
use Rattle.yaml_tree.specs.declared.yaml.Yaml.{Yaml}
use Rattle.yaml_loader.specs.declared.loader.YamlLoader.{YamlLoader}
use Rattle.yaml_loader.specs.Loading.{loader_of, kept_fault, TellsNotedKey}
use Rattle.yaml_loader.specs.Loads.{HasDocuments, HasNoted}
use Rattle.yaml_loader.specs.RepeatedKey.{TellsKey}

-- Why a loader gives no documents.
pub data IsGivenFault (l : YamlLoader) (f : ErrorReport) : Type 0 where
  -- It keeps this fault.
  kept : kept_fault l ≡ Some f → IsGivenFault l f
  -- It has noted a key that came twice, its second value at the fault's position. The fault tells the key.
  repeated_key : (key : Tree) → HasNoted (loader_of l) key f.position → (TellsNotedKey l → TellsKey key f.text) → f.memory ≡ false → IsGivenFault l f

-- A loader that is at work gives its finished documents, any other its fault.
abbrev pub Gives : YamlLoader → Result (Vec Yaml Global) ErrorReport → Type 0
Gives l (Ok documents) = HasDocuments (loader_of l) (items_view documents.items)
Gives l (Err f) = IsGivenFault l f
