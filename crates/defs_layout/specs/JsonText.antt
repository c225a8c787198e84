-- The JSON text of a tree: without white space, or indented. RFC 8259, sections 2 to 7.
use Rattle.std.specs.Prelude.{ℕ, ◌+◌, Option, Some, None, unwrap_or, List, [], ◌∷◌, ◌++◌, replicate, codes}
use Rattle.std.specs.Fmt.{signed_decimal}
use Rattle.defs_tree.specs.Tree.{Tree, real, integer, string, boolean, array, hash, alias, null, bad_value, Items, no_items, item, Pairs, no_pairs, pair}
use Rattle.defs_tree.specs.Escapes.{double_quoted}
use Rattle.defs_tree.specs.Spelling.{boolean_spelling}
use Rattle.defs_layout.specs.Marks.{line_feed, space}

-- ---- white space

-- Where there is an indentation, of so many spaces a level, each item and each member stands on a line of its own. The margin is
-- the spaces before the line's text.
abbrev pub deeper : (indentation : Option ℕ) → (margin : ℕ) → ℕ
deeper indentation margin = margin + unwrap_or indentation 0

-- a new line
abbrev pub new_line : (indentation : Option ℕ) → (margin : ℕ) → List ℕ
new_line None margin = []
new_line (Some width) margin = line_feed ∷ replicate margin space

-- what stands between a key and its value
abbrev pub key_end : (indentation : Option ℕ) → List ℕ
key_end None = codes ":"
key_end (Some width) = codes ": "

-- ---- trees

-- a key: a string. It is written as a dump writes a text in double quotes: each of its escapes is one of JSON.
abbrev pub key_text : Tree → List ℕ
key_text (string s) = double_quoted s
key_text _ = []

abbrev mutual
  -- a value. An alias and a bad value have no text.
  pub json_text : (indentation : Option ℕ) → (margin : ℕ) → Tree → List ℕ
  json_text indentation margin (real s) = s
  json_text indentation margin (integer z) = signed_decimal z
  json_text indentation margin (string s) = double_quoted s
  json_text indentation margin (boolean b) = boolean_spelling b
  json_text indentation margin (array no_items) = codes "[]"
  json_text indentation margin (array (item t ts)) =
      codes "["
      ++ (new_line indentation (deeper indentation margin)
      ++ (json_text indentation (deeper indentation margin) t
      ++ (more_items indentation (deeper indentation margin) ts
      ++ (new_line indentation margin
      ++ codes "]"))))
  json_text indentation margin (hash no_pairs) = codes "{}"
  json_text indentation margin (hash (pair k v ps)) =
      codes "{"
      ++ (new_line indentation (deeper indentation margin)
      ++ (key_text k
      ++ (key_end indentation
      ++ (json_text indentation (deeper indentation margin) v
      ++ (more_members indentation (deeper indentation margin) ps
      ++ (new_line indentation margin
      ++ codes "}"))))))
  json_text indentation margin (alias n) = []
  json_text indentation margin null = codes "null"
  json_text indentation margin bad_value = []

  -- further items, each after a comma
  pub more_items : (indentation : Option ℕ) → (margin : ℕ) → Items → List ℕ
  more_items indentation margin no_items = []
  more_items indentation margin (item t ts) = codes "," ++ (new_line indentation margin ++ (json_text indentation margin t ++ more_items indentation margin ts))

  -- further members, each after a comma
  pub more_members : (indentation : Option ℕ) → (margin : ℕ) → Pairs → List ℕ
  more_members indentation margin no_pairs = []
  more_members indentation margin (pair k v ps) =
      codes ","
      ++ (new_line indentation margin
      ++ (key_text k
      ++ (key_end indentation
      ++ (json_text indentation margin v
      ++ more_members indentation margin ps))))
