-- What a node holds, by its tree: its content where it is of one kind, and the value at a key or a place.
use Rattle.std.specs.Prelude.{ℕ, ℤ, pos, ◌^◌, Bool, true, false, List, Option, Some, None, option_and_then, nat_lt, slice_get, if◌then◌else◌}
use Rattle.defs_tree.specs.Tree.{Tree, real, integer, string, boolean, array, hash, null, bad_value, list_of, pair_list_of}
use Rattle.defs_tree.specs.Pairs.{lookup}

-- the truth value, of a boolean
abbrev pub boolean_of : Tree → Option Bool
boolean_of (boolean b) = Some b
boolean_of t = None

-- the number, of an integer
abbrev pub integer_of : Tree → Option ℤ
integer_of (integer z) = Some z
integer_of t = None

-- the text, of a string
abbrev pub text_of : Tree → Option (List ℕ)
text_of (string s) = Some s
text_of t = None

-- the items, of an array
abbrev pub array_of : Tree → Option (List Tree)
array_of (array ts) = Some (list_of ts)
array_of t = None

-- the pairs, of a hash
abbrev pub hash_of : Tree → Option (List (Tree × Tree))
hash_of (hash ps) = Some (pair_list_of ps)
hash_of t = None

-- whether it is null
abbrev pub is_null : Tree → Bool
is_null null = true
is_null t = false

-- whether it is a bad value
abbrev pub is_bad_value : Tree → Bool
is_bad_value bad_value = true
is_bad_value t = false

-- whether it is an array
abbrev pub is_array : Tree → Bool
is_array (array ts) = true
is_array t = false

-- whether it is a hash
abbrev pub is_hash : Tree → Bool
is_hash (hash ps) = true
is_hash t = false

-- whether a node is kept in memory of its own: a text, an array or a hash
abbrev pub takes_memory : Tree → Bool
takes_memory (real s) = true
takes_memory (string s) = true
takes_memory (array ts) = true
takes_memory (hash ps) = true
takes_memory t = false

-- the second where the first is null or a bad value, else the first
abbrev pub or_else : Tree → Tree → Tree
or_else null u = u
or_else bad_value u = u
or_else t u = t

-- in a hash the value of the key that is the string of the text
abbrev pub value_at_text : List ℕ → Tree → Option Tree
value_at_text text t = option_and_then (lookup (string text)) (hash_of t)

-- in an array the item at the place, counted from 0; in a hash the value of the key that is the integer, up to 2^63 - 1
abbrev pub value_at_index : ℕ → Tree → Option Tree
value_at_index i (array ts) = slice_get (list_of ts) i
value_at_index i (hash ps) = if nat_lt i (2 ^ 63) then lookup (integer (pos i)) (pair_list_of ps) else None
value_at_index i t = None
