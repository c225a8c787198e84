use Rattle.yaml_chars.proofs.Common.{[], ◌∷◌}
use Rattle.yaml_chars.proofs.BlockLineLemmas.{Fills-line, takes_line, value_stands}
use Rattle.yaml_chars.proofs.window.Window.take_value.Goals as goal

pub invariant_of-self-2 : goal.invariant_of-self-2
invariant_of-self-2 g c =
    let given = rw c.in-Some.is at c.in_ok-found.ensures.some in
    rw (c.keep_only.ensures, c.len.ensures.value) (Fills-line c.self.invariant given (32 ∷ []) (value_stands c.args.limit given) given.ends.1)

pub returns-clause-value : goal.returns-clause-value
returns-clause-value g c =
    let given = rw c.in-Some.is at c.in_ok-found.ensures.some in
    rw (← c.self.view_is, c.keep_only.ensures, c.len.ensures.value) (takes_line c.self.invariant given (32 ∷ []) (value_stands c.args.limit given) given.ends.1 _ _)
