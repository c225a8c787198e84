-- What a validator says of the port in settings, by their tree and its positions.
use Rattle.std.specs.Prelude.{◌≡◌, ◌+◌, ◌&&◌, ℕ, ℤ, pos, int_le, List, false, Option, Some, None, option_and_then, if◌then◌else◌, slice_get, Result, Ok, Err, codes}
use Rattle.uses.specs.declared.validator.Invalid.{Invalid}
use Rattle.uses.specs.declared.validator.Invalid.TheVariants as invalid
use Rattle.yaml_loader.specs.MarkedLoading.{AreMarksOf}
use Rattle.yaml_loader.specs.Marks.{Marks, node_at_text, own_position}
use Rattle.yaml_rust2.specs.Node.{integer_of}
use Rattle.yaml_rust2.specs.Meaning.{Means}
use Rattle.yaml_rust2.specs.Tree.{Tree}
use Rattle.yaml_rust2.specs.Unread.{IsUnread}

-- a number, if it is that of a port
abbrev pub if_port : ℤ → Option ℤ
if_port z = (if int_le (pos 1) z && int_le z (pos 65535) then Some z else None)

-- the number of a node, if it is that of a port
abbrev pub number_of_port : Tree → Option ℤ
number_of_port t = option_and_then if_port (integer_of t)

-- Of the node at `port`: its number, if it is that of a port; or that there is no node; or where it begins, line and column from 1.
abbrev pub JudgesNode : Option (Tree × Marks) → Result ℤ Invalid → Type 0
JudgesNode o (Ok number) = (n : Tree × Marks) × (o ≡ Some n) × (number_of_port n.0 ≡ Some number)
JudgesNode o (Err (invalid.Scan f)) = ⊥
JudgesNode o (Err invalid.NoPort) = o ≡ None
JudgesNode o (Err (invalid.Port line column)) = (n : Tree × Marks) × (o ≡ Some n) × (number_of_port n.0 ≡ None) × (line ≡ (own_position n.1).line) × (column ≡ (own_position n.1).col + 1)

-- in settings with these positions
abbrev pub Judges : Tree → Marks → Result ℤ Invalid → Type 0
Judges t m result = JudgesNode (node_at_text (codes "port") t m) result

-- the node at `port` in the first document
abbrev pub first_port : List Tree → List Marks → Option (Tree × Marks)
first_port ts ms = option_and_then (λ t. option_and_then (λ m. node_at_text (codes "port") t m) (slice_get ms 0)) (slice_get ts 0)

-- The text is read as documents, with these positions, and this is said of the first.
pub record JudgesFirst (text : List ℕ) (result : Result ℤ Invalid) : Type 0 where
  pub trees : List Tree
  pub marks : List Marks
  pub read : Means false text trees
  pub marked : AreMarksOf false text marks
  pub judged : JudgesNode (first_port trees marks) result

-- or the text has a fault, or memory was refused
abbrev pub JudgesText : List ℕ → Result ℤ Invalid → Type 0
JudgesText text (Err (invalid.Scan f)) = IsUnread false text f
JudgesText text result = JudgesFirst text result
