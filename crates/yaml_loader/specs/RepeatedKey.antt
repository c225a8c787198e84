-- What a fault says of a key that came twice in its mapping. YAML 1.2, section 3.2.1.1 (the keys of a mapping are distinct);
-- the text is this project's.
use Rattle.std.specs.Prelude.{◌≡◌, List, ◌++◌, ℕ, Option, Some, None, IfSome, codes}
use Rattle.std.specs.Fmt.{◌++?◌, debug_str}
use Rattle.std.specs.Str.{encode_utf8_all}
use Rattle.defs_tree.specs.Tree.{Tree, string}

-- How a key is shown, as `String("a")`. It is said of a string of ASCII characters alone.
abbrev pub shown_key : Tree → Option (List ℕ)
shown_key (string text) = Some (codes "String(") ++? debug_str (encode_utf8_all text) ++? Some (codes ")")
shown_key _ = None

-- The text shows the key, and then says that it came twice.
pub record TellsKey (key : Tree) (text : List ℕ) : Type 0 where
  pub shown : List ℕ
  pub is_shown : IfSome (shown_key key) (λ known. shown ≡ known)
  pub whole : text ≡ shown ++ codes ": duplicated key in mapping"
