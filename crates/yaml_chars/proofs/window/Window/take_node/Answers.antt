use Rattle.yaml_chars.proofs.Common.{[], sym, ◌∙◌}
use Rattle.yaml_chars.proofs.BlockLineLemmas.{Fills-key, takes_key, Fills-line, takes_line, node_key, node_line}
use Rattle.yaml_chars.proofs.window.Window.take_node.Goals as goal

pub invariant_of-self-then-broken : goal.invariant_of-self-then-broken
invariant_of-self-then-broken g c =
    let given = rw c.in-Some.is at c.in_ok-found.ensures.some in
    let ends = node_line c.args.limit _ _ _ _ given.ends (sym given.broke ∙ c.if-broken.true) in
    rw (c.keep_only.ensures, c.len.ensures.value) (Fills-line c.self.invariant given [] (sym given.joined) ends)

pub returns-then-broken-clause-node : goal.returns-then-broken-clause-node
returns-then-broken-clause-node g c =
    let given = rw c.in-Some.is at c.in_ok-found.ensures.some in
    let ends = node_line c.args.limit _ _ _ _ given.ends (sym given.broke ∙ c.if-broken.true) in
    rw (← c.self.view_is, c.keep_only.ensures, c.len.ensures.value) (takes_line c.self.invariant given [] (sym given.joined) ends _ _)

pub invariant_of-self-2 : goal.invariant_of-self-2
invariant_of-self-2 g c =
    let given = rw c.in-Some.is at c.in_ok-found.ensures.some in
    let ends = node_key c.args.limit _ _ _ _ given.ends (sym given.broke ∙ c.if-broken.false) in
    rw (c.keep_only.ensures, c.len.ensures.value) (Fills-key c.self.invariant given (sym given.joined) ends)

pub returns-clause-node : goal.returns-clause-node
returns-clause-node g c =
    let given = rw c.in-Some.is at c.in_ok-found.ensures.some in
    let ends = node_key c.args.limit _ _ _ _ given.ends (sym given.broke ∙ c.if-broken.false) in
    rw (← c.self.view_is, c.keep_only.ensures, c.len.ensures.value) (takes_key c.self.invariant given (sym given.joined) ends _ _)
