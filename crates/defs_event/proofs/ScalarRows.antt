-- The trees of scalars.
use Rattle.defs_event.proofs.Common.{[], bad_value, boolean, codes, false, integer, is_decimal, List, negsuc, None, null, pos, real, scalar_tree, Some, string, Style, Tree, true, typing, ℕ, ◌≡◌}
use Rattle.defs_event.proofs.Texts.{tag_of_text}

-- a plain scalar with a tag of the core schema
abbrev core : List ℕ → List ℕ → Tree
core suffix text = scalar_tree text Style.plain (Some (tag_of_text (codes "tag:yaml.org,2002:") suffix))

record Rows : Type 0 where
  -- without a tag, with a tag of the core schema but not plain, and with a tag of another schema
  by_style_and_schema :
      (scalar_tree (codes "12") Style.plain None ≡ integer (pos 12))
      × (scalar_tree (codes "12") Style.double_quoted (Some (tag_of_text (codes "tag:yaml.org,2002:") (codes "int"))) ≡ string (codes "12"))
      × (scalar_tree (codes "12") Style.plain (Some (tag_of_text (codes "!") (codes "int"))) ≡ string (codes "12"))
  -- in each other style
  not_plain :
      (scalar_tree [] Style.single_quoted None ≡ string []) × (scalar_tree (codes "12") Style.double_quoted None ≡ string (codes "12"))
      × (scalar_tree (codes "12") Style.literal None ≡ string (codes "12")) × (scalar_tree (codes "12") Style.folded None ≡ string (codes "12"))
  integers :
      (core (codes "int") (codes "-9223372036854775808") ≡ integer (negsuc 9223372036854775807))
      × (core (codes "int") (codes "9223372036854775808") ≡ bad_value)
  reals :
      (core (codes "float") (codes "12") ≡ real (codes "12")) × (core (codes "float") (codes ".INF") ≡ real (codes ".INF")) × (core (codes "float") (codes "x") ≡ bad_value)
  nulls : (core (codes "null") (codes "~") ≡ null) × (core (codes "null") (codes "null") ≡ null) × (core (codes "null") [] ≡ bad_value)
  booleans :
      (core (codes "bool") (codes "True") ≡ boolean true) × (core (codes "bool") (codes "FALSE") ≡ boolean false) × (core (codes "bool") (codes "null") ≡ bad_value)
  strings : core (codes "str") (codes "0") ≡ string (codes "0")

rows : Rows
unfolding typing is_decimal
rows = search
