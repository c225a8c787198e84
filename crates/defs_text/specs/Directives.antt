-- Directives: the lines that begin with `%` before a document.
-- YAML 1.2, sections 6.8.1 (%YAML) and 6.8.2 (%TAG). A directive of another name is reserved and ignored.
use Rattle.std.specs.Prelude.{ℕ, ◌+◌, ◌-◌, ◌*◌, List, [], ◌∷◌, ◌++◌, Bool, true, false, ◌&&◌, ◌||◌, ◌==◌, not, nat_le, if◌then◌else◌, length, Option, Some, None, Result, Ok, codes}
use Rattle.defs_text.specs.Classes.{is_blank, is_decimal_digit, is_alpha, is_uri, is_tag, is_at_gap}
use Rattle.defs_text.specs.Breaks.{is_rest_of_line}
use Rattle.defs_text.specs.Tags.{leading, after, is_same, is_tag_mark, is_handle, decoded, UriFault}

-- A directive: a version, a handle with its prefix, or one that is ignored.
pub data Directive : Type 0 where
  version : (major minor : ℕ) → Directive
  tag_declaration : (handle prefix : List ℕ) → Directive
  reserved : Directive

-- ---- %YAML

-- the number that decimal digits write, after those already read
abbrev pub decimal_value : (before : ℕ) → List ℕ → ℕ
decimal_value n [] = n
decimal_value n (c ∷ cs) = decimal_value (n * 10 + (c - 48)) cs

-- a version's number has one to nine digits
abbrev pub number_of : List ℕ → Option ℕ
number_of [] = None
number_of digits = (if nat_le (length digits) 9 then Some (decimal_value 0 digits) else None)

-- a version of two numbers
abbrev pub version_by : Option ℕ → Option ℕ → Option Directive
version_by (Some major) (Some minor) = Some (version major minor)
version_by _ _ = None

-- the point, the minor number, and nothing after it but blanks and a comment
abbrev pub minor_of : Option ℕ → List ℕ → Option Directive
minor_of major [] = None
minor_of major (c ∷ r) = (if (c == 46) && is_rest_of_line (after is_decimal_digit r) then version_by major (number_of (leading is_decimal_digit r)) else None)

-- the text after the directive's name and the blanks there
abbrev pub version_of : List ℕ → Option Directive
version_of r = minor_of (number_of (leading is_decimal_digit r)) (after is_decimal_digit r)

-- ---- %TAG

-- The prefix that a text declares: it begins with `!` or a tag's character, goes on with a URI's, and its escapes are resolved.
abbrev pub prefix_by : Bool → List ℕ → List ℕ → Result (List ℕ) UriFault → Option Directive
prefix_by true handle rest (Ok prefix) = (if is_rest_of_line rest then Some (tag_declaration handle prefix) else None)
prefix_by _ handle rest _ = None

-- whether a prefix may begin with this text's first character
abbrev pub begins_prefix : List ℕ → Bool
begins_prefix [] = false
begins_prefix (c ∷ r) = is_tag_mark c || is_tag c

-- a prefix, and nothing after it but blanks and a comment
abbrev pub prefix_of : (handle : List ℕ) → List ℕ → Option Directive
prefix_of handle r = prefix_by (begins_prefix r) handle (after is_uri r) (decoded (leading is_uri r))

-- the handle that a text begins with, after its first mark: up to the second mark, if the name ends there
abbrev pub name_and_mark : List ℕ → (name rest : List ℕ) → List ℕ × List ℕ
name_and_mark mark name [] = (mark ++ name, [])
name_and_mark mark name (c ∷ r) = (if is_tag_mark c then (mark ++ name ++ (c ∷ []), r) else (mark ++ name, c ∷ r))

-- the handle that a text begins with, and what stands after it
abbrev pub handle_and_rest : List ℕ → List ℕ × List ℕ
handle_and_rest [] = ([], [])
handle_and_rest (c ∷ r) = (if is_tag_mark c then name_and_mark (c ∷ []) (leading is_alpha r) (after is_alpha r) else ([], c ∷ r))

-- a declaration, if its handle is one
abbrev pub declaration_by : List ℕ × List ℕ → Option Directive
declaration_by p = (if is_handle (p.0) then prefix_of (p.0) (after is_blank (p.1)) else None)

-- the text after the directive's name and the blanks there: a handle, blanks, and a prefix
abbrev pub declaration_of : List ℕ → Option Directive
declaration_of r = declaration_by (handle_and_rest r)

-- ---- the directive

-- a directive by its name; the text after it
abbrev pub directive_by : (name : List ℕ) → (rest : List ℕ) → Option Directive
directive_by [] rest = None
directive_by name rest =
    (if not (is_at_gap rest) then None else
    (if is_same name (codes "YAML") then version_of (after is_blank rest) else
    (if is_same name (codes "TAG") then declaration_of (after is_blank rest) else Some reserved)))

-- The directive that a line is, from its percent sign up to its break.
unfoldable pub directive_of : List ℕ → Option Directive
directive_of [] = None
directive_of (c ∷ r) = (if c == 37 then directive_by (leading is_alpha r) (after is_alpha r) else None)
