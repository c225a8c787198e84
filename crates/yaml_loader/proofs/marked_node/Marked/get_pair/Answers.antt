use Rattle.yaml_loader.proofs.Common.{ap, chars, cond, option_and_then, pair_of, pair_with, pairs_left, Some, string, sym, ◌∙◌}
use Rattle.yaml_loader.proofs.marked_node.Marked.get_pair.Goals as goal

pub pairs-init : goal.pairs-init
pairs-init c =
    let key = string (chars c.args.key.now) in
    ap (λ o. option_and_then (pair_with key) o) (sym (c.in_ok-items.ensures {u = tt})) ∙ ap (λ i. pair_with key (pairs_left i)) (sym c.into_iter-name-iterator.ensures.into_iter_gives)

pub returns-then-is_text : goal.returns-then-is_text
returns-then-is_text c =
    let key = string (chars c.args.key.now) in
    let first = Some (pair_of (c.in-Some.name, c.in-Some.value)) in
    sym (c.pairs.invariant ∙ ap (pair_with key) (c.in-Some.ensures {u = tt}).steps ∙ ap (λ b. cond b first (pair_with key (pairs_left c.next.new.self))) (sym (c.if-is_text.ensures {u = tt})))

pub pairs-preserved : goal.pairs-preserved
pairs-preserved c =
    let key = string (chars c.args.key.now) in
    let first = Some (pair_of (c.in-Some.name, c.in-Some.value)) in
    c.pairs.invariant ∙ ap (pair_with key) (c.in-Some.ensures {u = tt}).steps ∙ ap (λ b. cond b first (pair_with key (pairs_left c.next.new.self))) (sym (c.if-is_text.ensures {u = tt}))

pub returns : goal.returns
returns c =
    let key = string (chars c.args.key.now) in
    sym (c.pairs.invariant ∙ ap (pair_with key) (c.in-None.ensures {u = tt}).steps.0)
