use Rattle.std.proofs.Common.{◌≡◌, All, take}
use Rattle.yaml_rust2.specs.DumpsInTurn.{dump_texts}
use Rattle.yaml_rust2.specs.Text.{string_chars}
use Rattle.yaml_rust2.specs.ValidTree.{IsValid}
use Rattle.yaml_rust2.specs.View.{view, items_view}
use Rattle.uses.proofs.many_documents.dumped_in_turn.Given as goal

abbrev pub invariant-loop-tree : goal.invariant-loop-tree
invariant-loop-tree l = record {
  text : string_chars l.text ≡ dump_texts l.fn.compact l.fn.multiline (items_view (take l.tree-index l.fn.trees));
  valid : All (λ y. IsValid (view y)) (take l.tree-index l.fn.trees);
}
