-- The names of the code, and those that they stand for.
use Rattle.std.specs.Prelude.{◌≡◌, ◌≤◌, ℕ, Bool, false, nat_lt, List, Option, Some, None, IfSome, option_map, is_some, String, string_bytes}
use Rattle.std.specs.BTreeMap.{get_by_text}
use Rattle.std.specs.declared.alloc.Global.{Global}
use Rattle.defs_text.specs.Text.{string_chars}
use Rattle.defs_event.specs.Names as defs
use Rattle.defs_event.specs.Raw.{Directive}
use Rattle.defs_event.specs.Names.{under_name, declared}
use Rattle.yaml_parser.specs.declared.names.Declaration.{Declaration}
use Rattle.yaml_parser.specs.declared.names.Names.{Names}

abbrev pub prefix_of : Declaration → List ℕ
prefix_of d = string_chars d.prefix

-- whether a handle's declaration, where there is one, came after so many
abbrev pub is_own : ℕ → Option Declaration → Bool
is_own earlier None = false
is_own earlier (Some d) = nat_lt earlier d.number

pub record IsNamed (code : Names) (names : defs.Names) : Type 0 where
  pub count : code.count ≡ names.count
  pub anchors : (x : String Global) → get_by_text code.anchors (string_bytes x) ≡ under_name (string_chars x) names.anchors
  pub handles : (x : String Global) → option_map prefix_of (get_by_text code.handles (string_bytes x)) ≡ under_name (string_chars x) names.handles
  pub numbers : (x : String Global) → IfSome (get_by_text code.handles (string_bytes x)) (λ d. d.number ≤ code.declared)

-- These directives were read; of the handles that they declare, the code knows that they are declared.
pub record IsOwn (code : Names) (read : List Directive) : Type 0 where
  pub own : (x : String Global) → is_own code.earlier (get_by_text code.handles (string_bytes x)) ≡ is_some (under_name (string_chars x) (declared read))
  pub earlier : code.earlier ≤ code.declared
