-- The code of a tree, by which a proof tells two trees apart.
use Rattle.std.specs.Prelude.{◌≡◌, ℕ, zero, suc, ℤ, pos, negsuc, Bool, true, false, List, [], ◌∷◌, refl}
use Rattle.std.specs.Coded.{Coded, code_by, coded_list, coded×}
use base.Stored.{Gv, gnil, gnum, gcons, num}
use denote.Struct.Codes.{itself}
use Rattle.defs_tree.specs.Tree.{Tree, real, integer, string, boolean, array, hash, alias, null, bad_value, Items, no_items, item, Pairs, no_pairs, pair}

-- an integer as a code, and back
abbrev to_integer : ℤ → Gv
to_integer (pos n) = gcons gnil (gnum n)
to_integer (negsuc n) = gcons (gnum 0) (gnum n)

abbrev from_integer : Gv → ℤ
from_integer gnil = pos 0
from_integer (gnum n) = pos 0
from_integer (gcons gnil b) = pos (num b)
from_integer (gcons (gnum n) b) = negsuc (num b)
from_integer (gcons (gcons x y) b) = pos 0

from_integer-to_integer : (z : ℤ) → from_integer (to_integer z) ≡ z
from_integer-to_integer (pos n) = refl
from_integer-to_integer (negsuc n) = refl

-- a boolean as a code, and back
abbrev to_bool : Bool → Gv
to_bool true = gnum 0
to_bool false = gnil

abbrev from_bool : Gv → Bool
from_bool gnil = false
from_bool (gnum n) = true
from_bool (gcons a b) = false

from_bool-to_bool : (b : Bool) → from_bool (to_bool b) ≡ b
from_bool-to_bool true = refl
from_bool-to_bool false = refl

-- a text as a code, and back
abbrev to_text : List ℕ → Gv
to_text [] = gnil
to_text (n ∷ ns) = gcons (gnum n) (to_text ns)

abbrev from_text : Gv → List ℕ
from_text gnil = []
from_text (gnum n) = []
from_text (gcons a b) = num a ∷ from_text b

from_text-to_text : (ns : List ℕ) → from_text (to_text ns) ≡ ns
from_text-to_text [] = refl
from_text-to_text (n ∷ ns) = λ i. n ∷ from_text-to_text ns i

abbrev mutual
  -- a tree as a code: the number of its variant, and what it holds
  pub to_gv : Tree → Gv
  to_gv (real s) = gcons (gnum 0) (to_text s)
  to_gv (integer z) = gcons (gnum 1) (to_integer z)
  to_gv (string s) = gcons (gnum 2) (to_text s)
  to_gv (boolean b) = gcons (gnum 3) (to_bool b)
  to_gv (array ts) = gcons (gnum 4) (items_to ts)
  to_gv (hash ps) = gcons (gnum 5) (pairs_to ps)
  to_gv (alias n) = gcons (gnum 6) (gnum n)
  to_gv null = gcons (gnum 7) gnil
  to_gv bad_value = gcons (gnum 8) gnil

  items_to : Items → Gv
  items_to no_items = gnil
  items_to (item t ts) = gcons (to_gv t) (items_to ts)

  pairs_to : Pairs → Gv
  pairs_to no_pairs = gnil
  pairs_to (pair k v ps) = gcons (to_gv k) (gcons (to_gv v) (pairs_to ps))

-- two items, a key and its value, make a pair
abbrev paired : Items → Pairs
paired no_items = no_pairs
paired (item k no_items) = no_pairs
paired (item k (item v ts)) = pair k v (paired ts)

-- by the tag, from the rest, and from the items that the rest is a code of
abbrev by_tag : ℕ → Gv → Items → Tree
by_tag zero g ts = real (from_text g)
by_tag (suc zero) g ts = integer (from_integer g)
by_tag (suc (suc zero)) g ts = string (from_text g)
by_tag (suc (suc (suc zero))) g ts = boolean (from_bool g)
by_tag (suc (suc (suc (suc zero)))) g ts = array ts
by_tag (suc (suc (suc (suc (suc zero))))) g ts = hash (paired ts)
by_tag (suc (suc (suc (suc (suc (suc zero)))))) g ts = alias (num g)
by_tag (suc (suc (suc (suc (suc (suc (suc zero))))))) g ts = null
by_tag (suc (suc (suc (suc (suc (suc (suc (suc n)))))))) g ts = bad_value

-- back: a code as a tree, and as the items that it may hold
abbrev pub from_gv : Gv → Tree × Items
from_gv gnil = (null, no_items)
from_gv (gnum n) = (null, no_items)
from_gv (gcons a b) = (by_tag (num a) b (from_gv b).1, item (from_gv a).0 (from_gv b).1)

-- each tree comes back
mutual
  pub from_gv-to_gv : (t : Tree) → (from_gv (to_gv t)).0 ≡ t
  from_gv-to_gv (real s) = λ i. real (from_text-to_text s i)
  from_gv-to_gv (integer z) = λ i. integer (from_integer-to_integer z i)
  from_gv-to_gv (string s) = λ i. string (from_text-to_text s i)
  from_gv-to_gv (boolean b) = λ i. boolean (from_bool-to_bool b i)
  from_gv-to_gv (array ts) = λ i. array (from_gv-items_to ts i)
  from_gv-to_gv (hash ps) = λ i. hash (paired-pairs_to ps i)
  from_gv-to_gv (alias n) = refl
  from_gv-to_gv null = refl
  from_gv-to_gv bad_value = refl

  from_gv-items_to : (ts : Items) → (from_gv (items_to ts)).1 ≡ ts
  from_gv-items_to no_items = refl
  from_gv-items_to (item t ts) = λ i. item (from_gv-to_gv t i) (from_gv-items_to ts i)

  paired-pairs_to : (ps : Pairs) → paired (from_gv (pairs_to ps)).1 ≡ ps
  paired-pairs_to no_pairs = refl
  paired-pairs_to (pair k v ps) = λ i. pair (from_gv-to_gv k i) (from_gv-to_gv v i) (paired-pairs_to ps i)

-- of trees
abbrev pub tree_code : Coded Tree
tree_code = code_by Gv itself to_gv (λ g. (from_gv g).0) from_gv-to_gv

-- of lists of pairs
abbrev pub pairs_code : Coded (List (Tree × Tree))
pairs_code = coded_list (coded× tree_code tree_code)

-- of lists of trees
abbrev pub items_code : Coded (List Tree)
items_code = coded_list tree_code
