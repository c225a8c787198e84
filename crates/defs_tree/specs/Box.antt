-- The lines in which a tree is written.
-- YAML 1.2, chapter 8 (block styles), section 8.1.2 (literal style).
use Rattle.std.specs.Prelude.{ℕ, Bool, true, false, not, ◌&&◌, if◌then◌else◌, List, [], ◌∷◌, ◌++◌, map, codes}
use Rattle.defs_tree.specs.Tree.{Tree, string, array, hash, Items, no_items, item, Pairs, no_pairs, pair}
use Rattle.defs_tree.specs.Spelling.{spelling, string_spelling, is_scalar}
use Rattle.defs_tree.specs.Literal.{is_literal_text, is_root_literal, literal_header}
use Rattle.defs_tree.specs.Lines.{lines_of}

-- lines two columns further to the right
abbrev pub indented : List (List ℕ) → List (List ℕ)
indented ls = map (λ l. 32 ∷ 32 ∷ l) ls

-- lines hung on a mark: the first stands after the mark and a space, the others two columns to the right
abbrev pub hung : List ℕ → List (List ℕ) → List (List ℕ)
hung mark [] = mark ∷ []
hung mark (l ∷ ls) = (mark ++ 32 ∷ l) ∷ indented ls

-- lines hung lower: the mark on a line of its own, then all of them two columns to the right
abbrev pub hung_lower : List ℕ → List (List ℕ) → List (List ℕ)
hung_lower mark ls = mark ∷ indented ls

-- an array or hash that isn't empty: it takes lines of its own
abbrev pub is_block : Tree → Bool
is_block (array (item t ts)) = true
is_block (hash (pair k v ps)) = true
is_block _ = false

-- the box of a tree hung on a mark, where a block goes lower if the flag says so
abbrev pub placed : Bool → List ℕ → Tree → List (List ℕ) → List (List ℕ)
placed blocks_lower mark t ls = if blocks_lower && is_block t then hung_lower mark ls else hung mark ls

-- what is written where there are no lines
abbrev pub if_none : List ℕ → List (List ℕ) → List (List ℕ)
if_none text [] = text ∷ []
if_none text (l ∷ ls) = l ∷ ls

-- a literal block: the header, then the lines of the text
abbrev pub literal_box : List ℕ → List (List ℕ)
literal_box s = literal_header s ∷ lines_of s

-- a string that isn't a key: as a literal block where that is wanted and may be, else on one line
abbrev pub string_box : Bool → Bool → List ℕ → List (List ℕ)
string_box multiline at_root s =
    if multiline && (if at_root then is_root_literal s else is_literal_text s) then literal_box s else string_spelling s ∷ []

-- a pair from its key and value and their boxes: a scalar key stands before a colon, and a block under it always goes lower;
-- an array or hash as key is hung on a question mark, and its value on a colon
abbrev pub pair_box : Bool → Tree → List (List ℕ) → Tree → List (List ℕ) → List (List ℕ)
pair_box compact k key v value =
    if is_scalar k then placed true (spelling k ++ codes ":") v value
    else placed (not compact) (codes "?") k key ++ placed (not compact) (codes ":") v value

abbrev mutual
  -- the box of a tree, with the two settings: an array is its items one below the other, each hung on a dash, a hash its pairs
  -- one below the other; compact says that a block may start after a dash, a question mark or a colon
  pub box : Bool → Bool → Bool → Tree → List (List ℕ)
  box compact multiline at_root (string s) = string_box multiline at_root s
  box compact multiline at_root (array ts) = if_none (codes "[]") (item_boxes compact multiline ts)
  box compact multiline at_root (hash ps) = if_none (codes "{}") (pair_boxes compact multiline ps)
  box compact multiline at_root t = spelling t ∷ []

  -- of the items of an array
  pub item_boxes : Bool → Bool → Items → List (List ℕ)
  item_boxes compact multiline no_items = []
  item_boxes compact multiline (item t ts) = placed (not compact) (codes "-") t (box compact multiline false t) ++ item_boxes compact multiline ts

  -- of the pairs of a hash
  pub pair_boxes : Bool → Bool → Pairs → List (List ℕ)
  pair_boxes compact multiline no_pairs = []
  pair_boxes compact multiline (pair k v ps) =
      pair_box compact k (box compact multiline false k) v (box compact multiline false v) ++ pair_boxes compact multiline ps
