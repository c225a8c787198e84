-- What one more directive comes to, after those that were read.
use Rattle.std.specs.Prelude.{◌≡◌, ℕ, List, [], ◌∷◌, ◌++◌, Bool, false, Result, Ok, Err}
use Rattle.defs_text.specs.Position.{Position}
use Rattle.yaml_tokens.specs.declared.problem.Fault.TheVariants.{OutOfMemory}
use Rattle.yaml_tokens.specs.declared.problem.Fault.TheVariants as fault
use Rattle.yaml_tokens.specs.declared.problem.Problem.TheVariants.{RepeatedHandle}
use Rattle.defs_event.specs.Raw as raw
use Rattle.defs_event.specs.Raw.{Directive}
use Rattle.defs_event.specs.Names as defs
use Rattle.defs_event.specs.Names.{at_document, declared, is_each_once}
use Rattle.yaml_parser.specs.declared.names.Names.{Names}
use Rattle.yaml_tokens.specs.declared.problem.Fault.{Fault}
use Rattle.yaml_parser.specs.Named.{IsNamed, IsOwn}

-- The directives were read, and the names are those after them.
pub record HasRead (code : Names) (keep : Bool) (names : defs.Names) (read : List Directive) : Type 0 where
  pub named : IsNamed code (at_document keep names read)
  pub own : IsOwn code read

-- A handle more is declared; or it was declared before, and so whatever may stand after it has it
-- twice. The fault's position is the mark.
abbrev pub Declares : Position → Names → Bool → defs.Names → List Directive → (handle prefix : List ℕ) → Result (Unit {0}) Fault → Type 0
Declares mark code keep names read h p (Ok u) =
    HasRead code keep names (read ++ raw.tag h p ∷ []) × (is_each_once (declared (read ++ raw.tag h p ∷ [])) ≡ is_each_once (declared read))
Declares mark code keep names read h p (Err OutOfMemory) = Unit {0}
Declares mark code keep names read h p (Err (fault.At q m)) =
    ((more : List Directive) → is_each_once (declared ((read ++ raw.tag h p ∷ []) ++ more)) ≡ false) × (q ≡ RepeatedHandle) × (m ≡ mark)
