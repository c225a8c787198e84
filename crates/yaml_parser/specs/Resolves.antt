-- What the resolution of a tag comes to. A fault's position is the mark.
use Rattle.std.specs.Prelude.{◌≡◌, ℕ, List, Some, None, Result, Ok, Err}
use Rattle.defs_text.specs.Position.{Position}
use Rattle.yaml_tokens.specs.declared.problem.Fault.TheVariants.{OutOfMemory}
use Rattle.yaml_tokens.specs.declared.problem.Fault.TheVariants as fault
use Rattle.yaml_tokens.specs.declared.problem.Problem.TheVariants.{UndeclaredHandle}
use Rattle.defs_event.specs.Event as defs
use Rattle.defs_event.specs.Names.{Names, resolved, undeclared}
use Rattle.yaml_parser.specs.declared.event.Tag.{Tag}
use Rattle.yaml_tokens.specs.declared.problem.Fault.{Fault}
use Rattle.yaml_parser.specs.Shown.{tag_of}

abbrev pub Resolves : Position → Names → defs.Tag → Result Tag Fault → Type 0
Resolves mark names t (Ok x) = resolved names.handles t ≡ Some (tag_of x)
Resolves mark names t (Err OutOfMemory) = Unit {0}
Resolves mark names t (Err (fault.At p m)) = (resolved names.handles t ≡ None) × (p ≡ UndeclaredHandle) × (m ≡ mark)

-- the same of a handle that was not declared
abbrev pub IsUndeclared : Position → (handle suffix : List ℕ) → Result Tag Fault → Type 0
IsUndeclared mark h x (Ok t) = (undeclared h ≡ Some (tag_of t).handle) × ((tag_of t).suffix ≡ x)
IsUndeclared mark h x (Err OutOfMemory) = Unit {0}
IsUndeclared mark h x (Err (fault.At p m)) = (undeclared h ≡ None) × (p ≡ UndeclaredHandle) × (m ≡ mark)
