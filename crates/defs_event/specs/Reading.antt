-- The trees that nested events stand for: a sequence is the array of its children, a mapping inserts its pairs in order,
-- and is refused at the value of the first key that comes twice. YAML 1.2, section 3.1 (construction).
use Rattle.std.specs.Prelude.{ℕ, if◌then◌else◌, List, [], ◌∷◌, ◌++◌, Result, Ok, Err}
use Rattle.defs_tree.specs.Tree.{Tree, array, hash, bad_value, items_of, pairs_of}
use Rattle.defs_tree.specs.Pairs.{has_key, insert}
use Rattle.defs_event.specs.Nested.{Nest, nested_alias, nested_scalar, nested_sequence, nested_mapping, Nests, no_nests, nest, NestPairs, no_nest_pairs, nest_pair, NestedDocument, without_node, with_node}
use Rattle.defs_event.specs.Scalar.{scalar_tree}
use Rattle.defs_event.specs.Anchors.{Anchors, aliased, finished}

-- What is read, and the finished anchors after it; or a key that came twice.
abbrev pub Read : Type 0 → Type 0
Read A = Result (A × Anchors) Tree

abbrev pub then_read : {A B : Type 0} → Read A → (A → Anchors → Read B) → Read B
then_read (Ok r) next = next r.0 r.1
then_read (Err key) next = Err key

-- a node's tree, and its anchor is finished
abbrev pub node_read : ℕ → Tree → Anchors → Read Tree
node_read anchor t anchors = Ok (t, finished anchor t anchors)

abbrev mutual
  pub read_node : Nest → Anchors → Read Tree
  read_node (nested_alias n) anchors = Ok (aliased n anchors, anchors)
  read_node (nested_scalar text style a tag) anchors = node_read a (scalar_tree text style tag) anchors
  read_node (nested_sequence a tag ns) anchors = then_read (read_items ns [] anchors) (λ ts more. node_read a (array (items_of ts)) more)
  read_node (nested_mapping a tag ps) anchors = then_read (read_pairs ps [] anchors) (λ held more. node_read a (hash (pairs_of held)) more)

  -- after the items so far
  pub read_items : Nests → List Tree → Anchors → Read (List Tree)
  read_items no_nests ts anchors = Ok (ts, anchors)
  read_items (nest n ns) ts anchors = then_read (read_node n anchors) (λ t more. read_items ns (ts ++ t ∷ []) more)

  -- into the pairs so far
  pub read_pairs : NestPairs → List (Tree × Tree) → Anchors → Read (List (Tree × Tree))
  read_pairs no_nest_pairs held anchors = Ok (held, anchors)
  read_pairs (nest_pair k v ps) held anchors =
      then_read (read_node k anchors) (λ key more. then_read (read_node v more)
      (λ value most. if has_key key held then Err key else read_pairs ps (insert key value held) most))

-- A document without a node is a bad value.
abbrev pub read_document : NestedDocument → Anchors → Read Tree
read_document without_node anchors = Ok (bad_value, anchors)
read_document (with_node n) anchors = read_node n anchors

-- after the documents so far
abbrev pub read_documents : List NestedDocument → List Tree → Anchors → Read (List Tree)
read_documents [] docs anchors = Ok (docs, anchors)
read_documents (d ∷ ds) docs anchors = then_read (read_document d anchors) (λ t more. read_documents ds (docs ++ t ∷ []) more)

abbrev pub documents_or_key : Read (List Tree) → Result (List Tree) Tree
documents_or_key (Ok r) = Ok r.0
documents_or_key (Err key) = Err key

-- the documents of a stream, or the key that came twice
abbrev pub reading : List NestedDocument → Result (List Tree) Tree
reading ds = documents_or_key (read_documents ds [] [])
