-- Laws of trees and texts: each is the contract of the function of `src/laws.rt` that its comment names.
use Rattle.std.specs.Prelude.{option_and_then, if◌then◌else◌, ◌||◌, ◌==◌, nat_eq, codes, ◌≡◌, ◌≢◌, ℕ, Bool, not, ◌↔◌, List, [], ◌∷◌, ◌++◌, Some, filter, is_none, IsTrue}
use Rattle.std.specs.List.{list_all, ends_with}
use Rattle.std.specs.Str.Lines.{lines}
use Rattle.std.specs.Cmp.{IsTotalOrder, IsEquivalence}
use Rattle.defs_tree.specs.Tree.{Tree, real, integer, string, boolean, null}
use Rattle.defs_tree.specs.Order.{tree_cmp, tree_eq}
use Rattle.defs_tree.specs.Pairs.{lookup, insert, place_of, value_at, AreDistinct}
use Rattle.defs_tree.specs.Lines.{is_unbroken, lines_of, ended}
use Rattle.defs_tree.specs.Grammar.{followed_by, IsSplit}
use Rattle.defs_text.specs.Text.{is_empty}
use Rattle.defs_tree.specs.Typing.{typing, rows, fits_i64, is_real_text}
use Rattle.defs_tree.specs.Quoting.{is_quoted}
use Rattle.defs_tree.specs.Spelling.{spelling}
use Rattle.defs_tree.specs.Digits.{binary_digits, IsLeastExponent}
use Rattle.defs_tree.specs.Valid.{IsDistinct, FitsI64}
use Rattle.defs_tree.specs.Box.{box}
use Rattle.defs_tree.specs.Writable.{HasText}
use Rattle.defs_tree.specs.Overlay.{overlay}

-- ---- order and equality

-- `order_is_total`
abbrev pub OrderIsTotal : Type 0
OrderIsTotal = IsTotalOrder tree_cmp

-- `equality_is_exact`
abbrev pub EqualityIsExact : Type 0
EqualityIsExact = (t u : Tree) → IsTrue (tree_eq t u) ↔ (t ≡ u)

-- `equality_is_an_equivalence`
abbrev pub EqualityIsAnEquivalence : Type 0
EqualityIsAnEquivalence = IsEquivalence tree_eq

-- ---- pairs

-- `insert_keeps_keys_distinct`
abbrev pub InsertKeepsKeysDistinct : Type 0
InsertKeepsKeysDistinct = (k v : Tree) (ps : List (Tree × Tree)) → AreDistinct ps → AreDistinct (insert k v ps)

-- `inserted_value_is_found`
abbrev pub InsertedValueIsFound : Type 0
InsertedValueIsFound = (k v : Tree) (ps : List (Tree × Tree)) → AreDistinct ps → lookup k (insert k v ps) ≡ Some v

-- `insert_keeps_other_values`
abbrev pub InsertKeepsOtherValues : Type 0
InsertKeepsOtherValues = (k v l : Tree) (ps : List (Tree × Tree)) → l ≢ k → lookup l (insert k v ps) ≡ lookup l ps

-- `insert_keeps_the_order`
abbrev pub InsertKeepsTheOrder : Type 0
InsertKeepsTheOrder = (k v : Tree) (ps : List (Tree × Tree)) → AreDistinct ps → insert k v ps ≡ filter (λ p. not (tree_eq k p.0)) ps ++ (k, v) ∷ []

-- `place_finds_the_value`
abbrev pub PlaceFindsTheValue : Type 0
PlaceFindsTheValue = (k : Tree) (ps : List (Tree × Tree)) → option_and_then (λ i. value_at i ps) (place_of k ps) ≡ lookup k ps

-- ---- grammars

-- `followed_by_is_a_cut`
abbrev pub FollowedByIsACut : Type 0
FollowedByIsACut = (first second : List ℕ → Bool) (text : List ℕ) → IsTrue (followed_by first second text) ↔ IsSplit first second text

-- ---- lines

-- `lines_make_the_text`
abbrev pub LinesMakeTheText : Type 0
LinesMakeTheText = (text : List ℕ) → ended (lines_of text) ≡ (if is_empty text || ends_with nat_eq text (codes "\n") then text else text ++ 10 ∷ [])

-- `lines_are_unbroken`
abbrev pub LinesAreUnbroken : Type 0
LinesAreUnbroken = (text : List ℕ) → IsTrue (list_all is_unbroken (lines_of text))

-- `lines_are_those_of_std`
abbrev pub LinesAreThoseOfStd : Type 0
LinesAreThoseOfStd = (text : List ℕ) → IsTrue (list_all (λ c. not (c == 13)) text) → lines_of text ≡ lines text

-- `box_lines_are_unbroken`
abbrev pub BoxLinesAreUnbroken : Type 0
BoxLinesAreUnbroken = (compact multiline at_root : Bool) (t : Tree) → FitsI64 t → HasText t → IsTrue (list_all is_unbroken (box compact multiline at_root t))

-- ---- typing

-- what a plain text may stand for: a real and a string have the very text, an integer has 64 bits, and there is no array, hash,
-- alias or bad value
abbrev pub MayStandFor : List ℕ → Tree → Type 0
MayStandFor text (real s) = s ≡ text
MayStandFor text (integer z) = IsTrue (fits_i64 z)
MayStandFor text (string s) = s ≡ text
MayStandFor text (boolean b) = Unit {0}
MayStandFor text null = Unit {0}
MayStandFor text _ = ⊥

-- `typing_gives_a_plain_scalar`
abbrev pub TypingGivesAPlainScalar : Type 0
TypingGivesAPlainScalar = (text : List ℕ) → MayStandFor text (typing text)

-- `strings_fit_no_row`
abbrev pub StringsFitNoRow : Type 0
StringsFitNoRow = (text : List ℕ) → (typing text ≡ string text) ↔ IsTrue (list_all (λ row. is_none (row text)) rows)

-- a scalar whose spelling is a plain one, and which a text can stand for
abbrev pub IsSpeltPlain : Tree → Type 0
IsSpeltPlain (real s) = IsTrue (is_real_text s)
IsSpeltPlain (integer z) = IsTrue (fits_i64 z)
IsSpeltPlain (string s) = IsTrue (not (is_quoted s))
IsSpeltPlain (boolean b) = Unit {0}
IsSpeltPlain null = Unit {0}
IsSpeltPlain _ = ⊥

-- `spelling_stands_for_its_scalar`
abbrev pub SpellingStandsForItsScalar : Type 0
SpellingStandsForItsScalar = (t : Tree) → IsSpeltPlain t → typing (spelling t) ≡ t

-- ---- numbers of digits, overlays

-- `digits_are_least`
abbrev pub DigitsAreLeast : Type 0
DigitsAreLeast = (n : ℕ) → IsLeastExponent n (binary_digits n)

-- `overlay_keeps_keys_distinct`
abbrev pub OverlayKeepsKeysDistinct : Type 0
OverlayKeepsKeysDistinct = (t u : Tree) → IsDistinct t → IsDistinct u → IsDistinct (overlay t u)
