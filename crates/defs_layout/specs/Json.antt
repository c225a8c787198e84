-- JSON texts, as trees that keep what was written, and the YAML tree that each stands for. RFC 8259, sections 2 to 7.
-- Four kinds of texts of that grammar are left out: those with a TAB outside the indentation of a line, with a `\u` escape of a surrogate,
-- alone or in a pair, with an object that has a key twice, or with a 256th level of arrays and objects.
use Rattle.std.specs.Prelude.{◌≡◌, ℕ, suc, ◌≤◌, max, List, [], ◌∷◌, ◌++◌, true, false, codes}
use Rattle.defs_tree.specs.Tree.{Tree, Items, Pairs, pairs_of}
use Rattle.defs_tree.specs.Pairs.{AreDistinct}
use Rattle.defs_layout.specs.Marks.{colon, comma, left_brace, left_bracket, right_brace, right_bracket}
use Rattle.defs_layout.specs.JsonNumber.{Number, spell_number, is_number, number_tree}
use Rattle.defs_layout.specs.JsonString.{Piece, spell_string, are_pieces, unescaped}
use Rattle.defs_layout.specs.JsonGap.{Blank, spell_gap, TabsBeginLines}

mutual
  -- a value: one of three words, a number, a string, an array or an object
  pub data Json : Type 0 where
    false_word : Json
    null_word : Json
    true_word : Json
    number : Number → Json
    string : List Piece → Json
    empty_array : (inside : List Blank) → Json
    array : (before : List Blank) → Elements → Json
    empty_object : (inside : List Blank) → Json
    object : (before : List Blank) → Members → Json

  -- a value and white space; then nothing, or a comma, white space and more
  pub data Elements : Type 0 where
    last_element : Json → (after : List Blank) → Elements
    element : Json → (after before : List Blank) → Elements → Elements

  -- a key, white space, a colon, white space, a value and white space; then nothing, or a comma, white space and more
  pub data Members : Type 0 where
    last_member : (key : List Piece) → (after_key after_colon : List Blank) → Json → (after : List Blank) → Members
    member : (key : List Piece) → (after_key after_colon : List Blank) → Json → (after before : List Blank) → Members → Members

-- a text: one value, and white space around it
pub record JsonText : Type 0 where
  pub before : List Blank
  pub value : Json
  pub after : List Blank

-- ---- the text, before the rest r

abbrev mutual
  -- a value
  pub spell : Json → List ℕ → List ℕ
  spell false_word r = codes "false" ++ r
  spell null_word r = codes "null" ++ r
  spell true_word r = codes "true" ++ r
  spell (number n) r = spell_number n r
  spell (string ps) r = spell_string ps r
  spell (empty_array g) r = left_bracket ∷ spell_gap g (right_bracket ∷ r)
  spell (array g es) r = left_bracket ∷ spell_gap g (spell_elements es (right_bracket ∷ r))
  spell (empty_object g) r = left_brace ∷ spell_gap g (right_brace ∷ r)
  spell (object g ms) r = left_brace ∷ spell_gap g (spell_members ms (right_brace ∷ r))

  -- the values of an array, commas between them
  pub spell_elements : Elements → List ℕ → List ℕ
  spell_elements (last_element v a) r = spell v (spell_gap a r)
  spell_elements (element v a b es) r = spell v (spell_gap a (comma ∷ spell_gap b (spell_elements es r)))

  -- the members of an object, commas between them
  pub spell_members : Members → List ℕ → List ℕ
  spell_members (last_member k g h v a) r = spell_string k (spell_gap g (colon ∷ spell_gap h (spell v (spell_gap a r))))
  spell_members (member k g h v a b ms) r = spell_string k (spell_gap g (colon ∷ spell_gap h (spell v (spell_gap a (comma ∷ spell_gap b (spell_members ms r))))))

-- the whole text
abbrev pub spell_text : JsonText → List ℕ
spell_text t = spell_gap t.before (spell t.value (spell_gap t.after []))

-- ---- the tree

abbrev mutual
  -- the tree of a value
  pub tree_of : Json → Tree
  tree_of false_word = Tree.boolean false
  tree_of null_word = Tree.null
  tree_of true_word = Tree.boolean true
  tree_of (number n) = number_tree n
  tree_of (string ps) = Tree.string (unescaped ps)
  tree_of (empty_array g) = Tree.array Items.no_items
  tree_of (array g es) = Tree.array (items es)
  tree_of (empty_object g) = Tree.hash Pairs.no_pairs
  tree_of (object g ms) = Tree.hash (pairs_of (pair_list ms))

  -- the items of an array
  pub items : Elements → Items
  items (last_element v a) = Items.item (tree_of v) Items.no_items
  items (element v a b es) = Items.item (tree_of v) (items es)

  -- an object's pairs, in the text's order
  pub pair_list : Members → List (Tree × Tree)
  pair_list (last_member k g h v a) = (Tree.string (unescaped k), tree_of v) ∷ []
  pair_list (member k g h v a b ms) = (Tree.string (unescaped k), tree_of v) ∷ pair_list ms

-- ---- which are JSON

-- the levels of arrays and objects
abbrev mutual
  -- of a value: none for a word, a number and a string
  pub levels : Json → ℕ
  levels false_word = 0
  levels null_word = 0
  levels true_word = 0
  levels (number n) = 0
  levels (string ps) = 0
  levels (empty_array g) = 1
  levels (array g es) = suc (element_levels es)
  levels (empty_object g) = 1
  levels (object g ms) = suc (member_levels ms)

  -- of the deepest of an array's values
  pub element_levels : Elements → ℕ
  element_levels (last_element v a) = levels v
  element_levels (element v a b es) = max (levels v) (element_levels es)

  -- of the deepest of an object's values
  pub member_levels : Members → ℕ
  member_levels (last_member k g h v a) = levels v
  member_levels (member k g h v a b ms) = max (levels v) (member_levels ms)

-- white space after another character
abbrev pub IsJsonGap : List Blank → Type 0
IsJsonGap g = TabsBeginLines false g

abbrev mutual
  -- a value
  pub IsJson : Json → Type 0
  IsJson false_word = Unit {0}
  IsJson null_word = Unit {0}
  IsJson true_word = Unit {0}
  IsJson (number n) = is_number n ≡ true
  IsJson (string ps) = are_pieces ps ≡ true
  IsJson (empty_array g) = IsJsonGap g
  IsJson (array g es) = IsJsonGap g × AreElements es
  IsJson (empty_object g) = IsJsonGap g
  -- no key of an object stands in it twice, when it is unescaped
  IsJson (object g ms) = IsJsonGap g × AreMembers ms × AreDistinct (pair_list ms)

  -- the values of an array
  pub AreElements : Elements → Type 0
  AreElements (last_element v a) = IsJson v × IsJsonGap a
  AreElements (element v a b es) = IsJson v × IsJsonGap a × IsJsonGap b × AreElements es

  -- the members of an object
  pub AreMembers : Members → Type 0
  AreMembers (last_member k g h v a) = (are_pieces k ≡ true) × IsJsonGap g × IsJsonGap h × IsJson v × IsJsonGap a
  AreMembers (member k g h v a b ms) = (are_pieces k ≡ true) × IsJsonGap g × IsJsonGap h × IsJson v × IsJsonGap a × IsJsonGap b × AreMembers ms

-- what makes a written text one of the class
pub record IsWellFormed (t : JsonText) : Type 0 where
  pub before : TabsBeginLines true t.before
  pub value : IsJson t.value
  pub after : IsJsonGap t.after
  pub depth : levels t.value ≤ 255

-- the text is JSON, and stands for the tree
abbrev pub IsJsonText : Tree → List ℕ → Type 0
IsJsonText tree text = (w : JsonText) × IsWellFormed w × (spell_text w ≡ text) × (tree_of w.value ≡ tree)
