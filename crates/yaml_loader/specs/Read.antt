-- What a call that reads, decodes and loads answers.
use Rattle.std.specs.Prelude.{◌≡◌, ◌≢◌, ℕ, List, Bool, true, false, Option, IfSome, Result, Ok, Err, String, Vec, ⊤}
use Rattle.std.specs.declared.alloc.Global.{Global}
use Rattle.std.specs.Io.KnownBytes.{Consumes}
use Rattle.std.specs.IoError.{error_kind}
use Rattle.std.specs.declared.io.ErrorKind.{ErrorKind}
use Rattle.std.specs.declared.io.ErrorKind.TheVariants.{OutOfMemory, Interrupted}
use Rattle.defs_text.specs.Text.{string_chars, up_to_nul}
use Rattle.yaml_tree.specs.declared.yaml.Yaml.{Yaml}
use Rattle.defs_event.specs.Meaning.{Means}
use Rattle.yaml_tree.specs.View.{items_view}
use Rattle.yaml_loader.specs.TextLoads.{LoadsText}
use Rattle.yaml_encoding.specs.Decoding.{Outcome, text, stopped}
use Rattle.yaml_loader.specs.declared.decoder.LoadError.{LoadError}
use Rattle.yaml_loader.specs.declared.decoder.LoadError.TheVariants.{IO, Scan, Decode}

-- the kind of a refused allocation
abbrev pub is_memory_kind : ErrorKind → Bool
is_memory_kind OutOfMemory = true
is_memory_kind _ = false

-- an error says that memory was refused
abbrev pub wants_memory : LoadError → Bool
wants_memory (IO e) = is_memory_kind (error_kind e)
wants_memory (Scan f) = f.memory
wants_memory (Decode m) = false

-- what holds of the outcome of decoding; nothing where reading failed or memory was refused
abbrev pub DecodedIs : Result (String Global) LoadError → (Outcome → Type 0) → Type 0
DecodedIs (Ok s) P = P (text (string_chars s))
DecodedIs (Err (Decode m)) P = P (stopped (string_chars m))
DecodedIs (Err (Scan f)) P = ⊥
DecodedIs (Err (IO e)) P = ⊤

-- what holds where there is an outcome
abbrev pub WhereDecoded : Result (String Global) LoadError → Type 0 → Type 0
WhereDecoded (Ok s) P = P
WhereDecoded (Err (Decode m)) P = P
WhereDecoded (Err (Scan f)) P = P
WhereDecoded (Err (IO e)) P = ⊤

-- a load of a text: the documents that it means up to a NUL, or a fault that has its reason in it, or out of memory
abbrev pub Loads : List ℕ → Result (Vec Yaml Global) LoadError → Type 0
Loads characters (Ok documents) = Means false (up_to_nul characters) (items_view documents.items)
Loads characters (Err (Scan f)) = LoadsText false (up_to_nul characters) (Err f)
Loads characters (Err (Decode m)) = ⊥
Loads characters (Err (IO e)) = ⊥

-- what holds of the outcome of decoding where a load came after it, which the text was given to
abbrev pub LoadedIs : Result (Vec Yaml Global) LoadError → (Outcome → Type 0) → Type 0
LoadedIs (Ok documents) P = (characters : List ℕ) × P (text characters) × Loads characters (Ok documents)
LoadedIs (Err (Scan f)) P = (characters : List ℕ) × P (text characters) × Loads characters (Err (Scan f))
LoadedIs (Err (Decode m)) P = P (stopped (string_chars m))
LoadedIs (Err (IO e)) P = ⊤

-- what holds where there is an outcome
abbrev pub WhereLoaded : Result (Vec Yaml Global) LoadError → Type 0 → Type 0
WhereLoaded (Ok documents) P = P
WhereLoaded (Err (Decode m)) P = P
WhereLoaded (Err (Scan f)) P = P
WhereLoaded (Err (IO e)) P = ⊤

-- the error is not that a read was interrupted
abbrev pub IsNoInterruption : LoadError → Type 0
IsNoInterruption (IO e) = error_kind e ≢ Interrupted
IsNoInterruption _ = ⊤

-- what a source still has is an end of what it had, where it told that: the bytes before were read
abbrev pub LeavesEnd : Option (List ℕ) → Option (List ℕ) → Type 0
LeavesEnd old new = (bytes : List ℕ) × Consumes old new bytes

-- what holds of some bytes, which are those that a source still had, where it tells them
abbrev pub HasBytes : Option (List ℕ) → (List ℕ → Type 0) → Type 0
HasBytes told P = (bytes : List ℕ) × IfSome told (λ xs. bytes ≡ xs) × P bytes
