use Rattle.std.proofs.Common.{◌≡◌, All, sym, ap, ◌∙◌, subst, arith}
use Rattle.std.proofs.lemmas.List.Elements.{All-nil, All-more}
use Rattle.yaml_rust2.specs.DumpsInTurn.{dump_texts}
use Rattle.yaml_rust2.specs.ValidTree.{IsValid}
use Rattle.yaml_rust2.specs.View.{view, items_view}
use Rattle.uses.proofs.InTurn.{holds_nothing, grown, none_taken, all_taken, all_views}
use Rattle.uses.proofs.many_documents.dumped_in_turn.Goals as goal

pub loop-tree-init : goal.loop-tree-init
loop-tree-init c =
    let none = none_taken c.args.trees.now in
    record {
      text = holds_nothing _ c.new-text.ensures.bytes ∙ ap (λ xs. dump_texts c.args.compact c.args.multiline (items_view xs)) (sym none);
      valid = subst (λ xs. All (λ y. IsValid (view y)) xs) (sym none) (All-nil (λ y. IsValid (view y)));
    }

pub loop-tree-preserved : goal.loop-tree-preserved
loop-tree-preserved c = record {
  text = grown view c.args.compact c.args.multiline c.args.trees.now c.loop-tree.tree-index _ c.tree-item.result _ _ (omega arith) c.loop-tree-test.true c.tree-item.is c.loop-tree.invariant.text c.in_ok-append.ensures.text;
  valid = All-more (λ y. IsValid (view y)) c.args.trees.now c.loop-tree.tree-index c.tree-item.result c.loop-tree-test.true c.loop-tree.invariant.valid
      (subst (λ y. IsValid (view y)) c.tree-item.is c.in_ok-append.ensures.valid);
}

pub returns-clause-text : goal.returns-clause-text
returns-clause-text c =
    c.loop-tree.invariant.text ∙ ap (λ xs. dump_texts c.args.compact c.args.multiline (items_view xs)) (all_taken c.args.trees.now c.loop-tree.tree-index c.loop-tree-test.false)

pub returns-clause-valid : goal.returns-clause-valid
returns-clause-valid c =
    all_views view c.args.trees.now (subst (λ xs. All (λ y. IsValid (view y)) xs) (all_taken c.args.trees.now c.loop-tree.tree-index c.loop-tree-test.false) c.loop-tree.invariant.valid)
