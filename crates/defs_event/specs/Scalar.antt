-- The tree of a scalar. One that is not plain is a string. A plain one without a tag stands for what its text stands for;
-- with a tag of the core schema it is read as that tag says, or is a bad value; with any other tag it is a string.
-- YAML 1.2, section 10.3 (the core schema); the texts that each tag reads are this project's.
use Rattle.std.specs.Prelude.{ℕ, ◌||◌, if◌then◌else◌, List, [], ◌∷◌, Option, Some, None, option_map, unwrap_or, bytes_eq, codes, true, false}
use Rattle.defs_tree.specs.Tree.{Tree, real, integer, string, boolean, null, bad_value}
use Rattle.defs_tree.specs.Grammar.{is_among}
use Rattle.defs_tree.specs.Typing.{typing, signed_decimal, is_decimal, is_real_text, true_words, false_words}
use Rattle.defs_token.specs.Token.{Style}
use Rattle.defs_event.specs.Event.{Tag}
use Rattle.defs_event.specs.Names.{core_prefix}

abbrev pub as_boolean : List ℕ → Tree
as_boolean text =
    if is_among true_words text then boolean true
    else (if is_among false_words text then boolean false else bad_value)

-- a decimal number that fits 64 bits
abbrev pub as_integer : List ℕ → Tree
as_integer text = unwrap_or (option_map integer (signed_decimal text)) bad_value

-- a text that stands for a real, or a decimal number: it keeps its text
abbrev pub as_real : List ℕ → Tree
as_real text = if is_real_text text || is_decimal text then real text else bad_value

abbrev pub as_null : List ℕ → Tree
as_null text = if is_among (codes "~" ∷ codes "null" ∷ []) text then null else bad_value

-- by the name of a tag of the core schema
abbrev pub by_name : List ℕ → List ℕ → Tree
by_name name text =
    if bytes_eq name (codes "bool") then as_boolean text
    else (if bytes_eq name (codes "int") then as_integer text
    else (if bytes_eq name (codes "float") then as_real text
    else (if bytes_eq name (codes "null") then as_null text
    else string text)))

abbrev pub tagged_tree : Tag → List ℕ → Tree
tagged_tree t text = if bytes_eq t.handle core_prefix then by_name t.suffix text else string text

abbrev pub scalar_tree : List ℕ → Style → Option Tag → Tree
scalar_tree text Style.plain None = typing text
scalar_tree text Style.plain (Some t) = tagged_tree t text
scalar_tree text _ _ = string text
