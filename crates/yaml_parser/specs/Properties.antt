-- The properties of a node in the code, and those that were written.
use Rattle.std.specs.Prelude.{◌≡◌, ℕ, List, Option, Some, None, option_map, is_some, Result}
use Rattle.defs_text.specs.Position as chars
use Rattle.defs_text.specs.Text.{string_chars}
use Rattle.defs_event.specs.Event as defs
use Rattle.defs_event.specs.Event.{Ev}
use Rattle.defs_event.specs.Properties as written
use Rattle.defs_event.specs.Names.{Names, number, with_anchor, perhaps_resolved}
use Rattle.model_parser.specs.declared.context.NodeContext.{NodeContext}
use Rattle.model_parser.specs.Goal as at
use Rattle.yaml_parser.specs.declared.node.Properties.{Properties}
use Rattle.yaml_parser.specs.declared.slot.EventSlot.{EventSlot}
use Rattle.yaml_parser.specs.declared.reader.Reader.{Reader}
use Rattle.yaml_parser.specs.Named.{IsNamed}
use Rattle.yaml_parser.specs.Shown as shown
use Rattle.yaml_parser.specs.At.{At, Answers, answered}

-- the anchor's name
abbrev pub name_of : Option Properties → Option (List ℕ)
name_of None = None
name_of (Some p) = option_map string_chars p.anchor

abbrev pub kept_tag : Option Properties → Option defs.Tag
kept_tag None = None
kept_tag (Some p) = shown.perhaps_tag_of p.tag

-- These properties were written, and their tag is resolved.
pub record Has (names : Names) (o : Option written.Properties) (p : Option Properties) : Type 0 where
  pub both : is_some o ≡ is_some p
  pub anchor : written.perhaps_anchor_of o ≡ name_of p
  pub tag : perhaps_resolved names.handles (written.perhaps_tag_of o) ≡ Some (kept_tag p)

-- what a content comes to, after these properties
pub record ReadsAfter {T E : Type 0} (p : NodeContext) (properties : Option Properties) (old new : Reader T) (result : Result (Unit {0}) E) (slot : EventSlot) : Type 0 where
  pub so : (o : Option written.Properties) (names : Names) (given : List (Ev × chars.Position)) → Has names o properties → At (at.content p o) old names given → Answers new given (answered result slot)

-- The anchor of these properties is numbered, and nothing else changes.
pub record Registers {T : Type 0} (old : Reader T) (properties : Option Properties) (names : Names) (gives : ℕ → Option defs.Tag → Type 0) (new : Reader T) : Type 0 where
  pub value : gives (number names (name_of properties)) (kept_tag properties)
  pub tokens : new.tokens ≡ old.tokens
  pub stack : new.stack ≡ old.stack
  pub keep : new.names.keeping ≡ old.names.keeping
  pub code : IsNamed new.names (with_anchor names (name_of properties))
