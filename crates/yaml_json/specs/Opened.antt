-- The collections that are open around a place where a value stands.
use Rattle.std.specs.Prelude.{◌≡◌, ℕ, suc, ◌-◌, List, [], ◌∷◌, ◌++◌, Bool, true, false, length, Option, Some, None}
use Rattle.defs_tree.specs.Tree.{Tree}
use Rattle.defs_tree.specs.Pairs.{AreDistinct}
use Rattle.defs_layout.specs.Marks.{right_brace, right_bracket}
use Rattle.yaml_tree.specs.View.{view, array_tree, hash_tree}
use Rattle.yaml_tree.specs.declared.yaml.Yaml.{Yaml}
use Rattle.yaml_json.specs.Reads.{IsValue, AreItems, ArePairs, IsKey}
use Rattle.yaml_json.specs.declared.open.Open.{Open}
use Rattle.yaml_json.specs.declared.open.Open.TheVariants as open_as

-- An array that begins at `text`, and whose values `ts` stand before `rest`: whatever values stand from there to its end, it is a value. Each
-- has at most n levels.
pub record IsInArray (ts : List Tree) (n : ℕ) (text rest : List ℕ) : Type 0 where
  pub ends : (more : List Tree) (end : List ℕ) → AreItems more n rest (right_bracket ∷ end) → IsValue (array_tree (ts ++ more)) (suc n) text end

-- The same of an object, before the key of a member.
pub record IsInObject (ps : List (Tree × Tree)) (n : ℕ) (text rest : List ℕ) : Type 0 where
  pub distinct : AreDistinct ps
  pub ends : (more : List (Tree × Tree)) (end : List ℕ) → ArePairs more n rest (right_brace ∷ end) → AreDistinct (ps ++ more) → IsValue (hash_tree (ps ++ more)) (suc n) text end

-- And before a value, whose key is this one.
pub record IsInMember (ps : List (Tree × Tree)) (key : Tree) (n : ℕ) (text rest : List ℕ) : Type 0 where
  pub at : List ℕ
  pub before : IsInObject ps n text at
  pub key_is : IsKey key at rest

-- an open collection
abbrev pub IsIn : Open → ℕ → List ℕ → List ℕ → Type 0
IsIn (open_as.Array ts) n text rest = IsInArray ts n text rest
IsIn (open_as.Object ps key) n text rest = IsInMember ps (view key) n text rest

-- Open collections, each at the place of a value in the one before; together they have at most n levels.
abbrev pub AreOpen : List Open → ℕ → List ℕ → List ℕ → Type 0
AreOpen [] n text rest = text ≡ rest
AreOpen (o ∷ os) n text rest = (m : ℕ) × (n ≡ suc m) × (inner : List ℕ) × IsIn o m text inner × AreOpen os m inner rest

-- A whole value stands between two places, and before it these collections are open.
pub record HasValue (os : List Open) (tree : Tree) (text rest : List ℕ) : Type 0 where
  pub at : List ℕ
  pub opened : AreOpen os 255 text at
  pub value : IsValue tree (255 - length os) at rest

-- a value, or a place where one stands
abbrev pub Begins : Option Yaml → List Open → List ℕ → List ℕ → Type 0
Begins (Some value) os text rest = HasValue os (view value) text rest
Begins None os text rest = AreOpen os 255 text rest

-- the value that the text begins with, or a place where one stands in it
abbrev pub Ends : Option Yaml → List Open → List ℕ → List ℕ → Type 0
Ends (Some value) os text rest = IsValue (view value) 255 text rest
Ends None os text rest = AreOpen os 255 text rest

-- the tree of a collection that has ended
abbrev pub tree_in : Open → Tree
tree_in (open_as.Array ts) = array_tree ts
tree_in (open_as.Object ps key) = hash_tree ps

-- An array is open where a value of this tree stands. Behind it the array ends, or is open before the next value.
abbrev pub PutsItem : List Tree → Tree → Bool → List Tree → List ℕ → List ℕ → Type 0
PutsItem old tree false new old_rest new_rest = (n : ℕ) (text at : List ℕ) → IsInArray old n text at → IsValue tree n at old_rest → IsInArray new n text new_rest
PutsItem old tree true new old_rest new_rest = (n : ℕ) (text at : List ℕ) → IsInArray old n text at → IsValue tree n at old_rest → IsValue (array_tree new) (suc n) text new_rest

-- The same of an object.
abbrev pub PutsMember : List (Tree × Tree) → Tree → Tree → Bool → List (Tree × Tree) → Tree → List ℕ → List ℕ → Type 0
PutsMember old key tree false new next old_rest new_rest = (n : ℕ) (text at : List ℕ) → IsInMember old key n text at → IsValue tree n at old_rest → IsInMember new next n text new_rest
PutsMember old key tree true new next old_rest new_rest = (n : ℕ) (text at : List ℕ) → IsInMember old key n text at → IsValue tree n at old_rest → IsValue (hash_tree new) (suc n) text new_rest

-- The same of either.
abbrev pub Puts : Open → Tree → Bool → Open → List ℕ → List ℕ → Type 0
Puts (open_as.Array ts) tree ended (open_as.Array us) old_rest new_rest = PutsItem ts tree ended us old_rest new_rest
Puts (open_as.Object ps key) tree ended (open_as.Object qs next) old_rest new_rest = PutsMember ps (view key) tree ended qs (view next) old_rest new_rest
Puts _ tree ended _ old_rest new_rest = ⊥

-- A pair with a new key is put at the end.
pub record Adds (old : List (Tree × Tree)) (key value : Tree) (new : List (Tree × Tree)) : Type 0 where
  pub pairs : new ≡ old ++ (key, value) ∷ []
  pub distinct : AreDistinct old → AreDistinct new

-- The innermost of open collections takes a value.
pub record PutsLast (old new : List Open) (tree : Tree) (ended : Bool) (old_rest new_rest : List ℕ) : Type 0 where
  pub outer : List Open
  pub before : Open
  pub after : Open
  pub was : old ≡ outer ++ before ∷ []
  pub is : new ≡ outer ++ after ∷ []
  pub puts : Puts before tree ended after old_rest new_rest
