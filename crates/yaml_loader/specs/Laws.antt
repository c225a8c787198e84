-- Statements over the definitions, each the contract of the function with its name in `laws`.
use Rattle.std.specs.Prelude.{◌≡◌, ℕ, Bool, List, [], ◌∷◌, ◌++◌, None, Result, Err, Vec}
use Rattle.std.specs.declared.alloc.Global.{Global}
use Rattle.defs_text.specs.Position.{Position}
use Rattle.defs_tree.specs.Tree.{Tree}
use Rattle.defs_event.specs.Event.{Ev}
use Rattle.defs_event.specs.Unfinished.{Loader, new_loader, with_event_at, with_events, documents_of, refused_at}
use Rattle.yaml_tokens.specs.ErrorReport.{ErrorReport}
use Rattle.yaml_tree.specs.declared.yaml.Yaml.{Yaml}
use Rattle.yaml_parser.specs.Blames.{WantsMemory}
use Rattle.yaml_parser.specs.Loads.{Receives}
use Rattle.proof_loads.specs.PlacedEvents.{HasEvents}
use Rattle.proof_loads.specs.TextEvents.{BeginsEvents}
use Rattle.yaml_loader.specs.declared.loader.YamlLoader.{YamlLoader}
use Rattle.yaml_loader.specs.Alike.{StandAlike}
use Rattle.yaml_loader.specs.Gives.{Gives}
use Rattle.yaml_loader.specs.Loading.{loader_of, kept_fault, Takes}
use Rattle.yaml_loader.specs.Loads.{HasDocuments}
use Rattle.yaml_loader.specs.TextLoads.{LoadsText}
use Rattle.yaml_loader.specs.Reached.{Reaches}

-- `alike_loaders_show_the_same`
abbrev pub AlikeLoadersShowTheSame : Type 0
AlikeLoadersShowTheSame = (l m : Loader) → StandAlike l m → (documents_of l ≡ documents_of m) × (refused_at l ≡ refused_at m)

-- `alike_loaders_go_on_alike`
abbrev pub AlikeLoadersGoOnAlike : Type 0
AlikeLoadersGoOnAlike = (l m : Loader) (e : Ev) (position : Position) → StandAlike l m → StandAlike (with_event_at l e position) (with_event_at m e position)

-- `events_are_read_as_defined`
abbrev pub EventsAreReadAsDefined : Type 0
EventsAreReadAsDefined =
    (empty loader : YamlLoader) (events : List (Ev × Position)) → loader_of empty ≡ new_loader → Reaches empty events loader
    → StandAlike (with_events new_loader events) (loader_of loader)

-- `taken_texts_are_loaded`; the loader has taken all events of the text, each with `Ok`
abbrev pub TakenTextsAreLoaded : Type 0
TakenTextsAreLoaded =
    (keep_tags : Bool) (text : List ℕ) (es : List (Ev × Position)) (empty l : YamlLoader) (result : Result (Vec Yaml Global) ErrorReport)
    → loader_of empty ≡ new_loader → kept_fault empty ≡ None → HasEvents keep_tags text es → Receives Takes empty es l → Gives l result → LoadsText keep_tags text result

-- `taken_events_are_read`; the loader has taken these events, each with `Ok`
abbrev pub TakenEventsAreRead : Type 0
TakenEventsAreRead =
    (es : List (Ev × Position)) (empty l : YamlLoader) (documents : List Tree)
    → loader_of empty ≡ new_loader → kept_fault empty ≡ None → Receives Takes empty es l → HasDocuments (loader_of l) documents → HasDocuments (with_events new_loader es) documents

-- `refused_texts_want_memory`; the loader has taken the first events of the text and refuses the next
abbrev pub RefusedTextsWantMemory : Type 0
RefusedTextsWantMemory =
    (keep_tags : Bool) (text : List ℕ) (es : List (Ev × Position)) (e : Ev) (p : Position) (empty l n : YamlLoader) (f : ErrorReport)
    → loader_of empty ≡ new_loader → kept_fault empty ≡ None → BeginsEvents keep_tags text (es ++ (e, p) ∷ []) → Receives Takes empty es l → Takes l e p (Err f) n → WantsMemory f
