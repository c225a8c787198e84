-- The reading of a JSON text's document is its tree: so its tokens are read as this tree, and its events are loaded so.
use Rattle.proof_layouts.proofs.Common.{[], Anchors, ap, append_assoc, AreElements, AreMembers, element_nests, Elements, is_decimal, IsJson, Json, json_documents, json_text_tokens, JsonDocumentsReadAsTheirTrees, JsonEventsAreLoaded, JsonTokensReadAsTheirTree, List, list_of, member_nests, Members, nested_of, Ok, read_items, read_node, refl, Tree, tree_of, typing, ◌++◌, ◌∷◌, ◌≡◌}
use Rattle.defs_layout.specs.Json.{items, pair_list}
use Rattle.proof_layouts.proofs.Json.Derived.{tokens_are_a_stream}
use Rattle.proof_layouts.proofs.Loads.{streams_are_loaded}
use Rattle.proof_layouts.proofs.Numbers.{numbers_stand_for_their_trees}
use Rattle.proof_layouts.proofs.Held.{PairsRead, no_pairs_read, pair_read, list_again}

-- what is read of each, whatever anchors are finished
mutual
  unfolding typing is_decimal

  pub value_reads : (v : Json) → IsJson v → (anchors : Anchors) → read_node (nested_of v) anchors ≡ Ok (tree_of v, anchors)
  value_reads (Json.number n) is anchors = ap (λ t. Ok (t, anchors)) (numbers_stand_for_their_trees n is)
  value_reads (Json.array g es) is anchors = rw (elements_read es is.1 [] anchors, list_again (items es)) refl
  value_reads (Json.object g ms) is anchors = rw ((members_read ms is.1 anchors).behind [] is.2) refl
  value_reads _ is anchors = refl

  elements_read : (es : Elements) → AreElements es → (ts : List Tree) (anchors : Anchors)
      → read_items (element_nests es) ts anchors ≡ Ok (ts ++ list_of (items es), anchors)
  elements_read (Elements.last_element v a) are ts anchors = rw (value_reads v are.0 anchors) refl
  elements_read (Elements.element v a b es) are ts anchors =
      rw (value_reads v are.0 anchors, elements_read es are.3 (ts ++ tree_of v ∷ []) anchors, append_assoc) refl

  members_read : (ms : Members) → AreMembers ms → (anchors : Anchors) → PairsRead (member_nests ms) (pair_list ms) anchors anchors
  members_read (Members.last_member k g h v a) are anchors = pair_read refl (value_reads v are.3 anchors) (no_pairs_read anchors)
  members_read (Members.member k g h v a b ms) are anchors = pair_read refl (value_reads v are.3 anchors) (members_read ms are.6 anchors)

pub documents_read_as_their_trees : JsonDocumentsReadAsTheirTrees
documents_read_as_their_trees w is = rw (value_reads w.value is.value []) refl

pub tokens_read_as_their_tree : JsonTokensReadAsTheirTree
tokens_read_as_their_tree keep_tags w is = record { documents = json_documents w; stream = tokens_are_a_stream keep_tags w; trees_are = documents_read_as_their_trees w is }

pub events_are_loaded : JsonEventsAreLoaded
events_are_loaded keep_tags w events is s = streams_are_loaded keep_tags (json_text_tokens w) (tree_of w.value ∷ []) events (tokens_read_as_their_tree keep_tags w is) s
