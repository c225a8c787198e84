-- Where directives are read.
use Rattle.std.specs.Prelude.{◌≡◌, List, [], ◌++◌, Bool, false, if◌then◌else◌, Option, Result, Ok, Err}
use Rattle.defs_text.specs.Position.{Position}
use Rattle.defs_event.specs.Event.{Ev}
use Rattle.defs_event.specs.Raw.{Directive}
use Rattle.defs_event.specs.Properties.{directives_tokens}
use Rattle.defs_token.specs.Token.{Tok}
use Rattle.defs_event.specs.Names.{Names, versions}
use Rattle.model_parser.specs.Goal as at
use Rattle.yaml_tokens.specs.declared.problem.Fault.{Fault}
use Rattle.yaml_parser.specs.declared.slot.EventSlot.{EventSlot}
use Rattle.yaml_parser.specs.declared.reader.Reader.{Reader}
use Rattle.yaml_parser.specs.Handed.{taken_toks}
use Rattle.yaml_parser.specs.Named.{IsOwn}
use Rattle.yaml_parser.specs.At.{At, Faulted, with_fault}

-- These tokens end with these directives.
abbrev pub IsAfter : List Directive → List Tok → Type 0
IsAfter read tokens = (earlier : List Tok) × (tokens ≡ earlier ++ directives_tokens read [])

-- Some directives were read, a version among them or none.
pub record Directing {T : Type 0} (p : Reader T) (names : Names) (given : List (Ev × Position)) (versioned : Bool) : Type 0 where
  pub read : List Directive
  pub here : At (at.directives read) p names given
  pub own : IsOwn p.names read
  pub version : versions read ≡ (if versioned then 1 else 0)
  pub taken : IsAfter read (taken_toks p.tokens)

-- The directives go on, or one is refused.
abbrev pub DirectsTo : {T : Type 0} → Reader T → Names → List (Ev × Position) → Bool → Result (Unit {0}) (Option Fault) → Type 0
DirectsTo p names given versioned (Ok u) = Directing p names given versioned
DirectsTo p names given versioned (Err s) = Faulted p given s

abbrev pub Directs : {T E : Type 0} → Bool → Bool → Reader T → Reader T → Result (Unit {0}) E → EventSlot → Type 0
Directs before after old new result slot = (names : Names) (given : List (Ev × Position)) → Directing old names given before → DirectsTo new names given after (with_fault result slot)

-- All directives of a document are read.
abbrev pub AreRead : {T : Type 0} → Reader T → Reader T → Type 0
AreRead old new = (names : Names) (given : List (Ev × Position)) → Directing old names given false → (read : List Directive) × At (at.directives read) new names given

abbrev pub DirectivesFail : {T : Type 0} → Reader T → Reader T → Option Fault → Type 0
DirectivesFail old new s = (names : Names) (given : List (Ev × Position)) → Directing old names given false → Faulted new given s
