use Rattle.yaml_chars.proofs.Common.{sym}
use Rattle.yaml_chars.proofs.BlockLineLemmas.{Fills-key, takes_key}
use Rattle.yaml_chars.proofs.window.Window.take_key.Goals as goal

pub invariant_of-self-2 : goal.invariant_of-self-2
invariant_of-self-2 g c =
    let given = rw c.in-Some.is at c.in_ok-found.ensures.some in
    rw (c.keep_only.ensures, c.len.ensures.value) (Fills-key c.self.invariant given (sym given.joined) given.ends)

pub returns-clause-key : goal.returns-clause-key
returns-clause-key g c =
    let given = rw c.in-Some.is at c.in_ok-found.ensures.some in
    rw (← c.self.view_is, c.keep_only.ensures, c.len.ensures.value) (takes_key c.self.invariant given (sym given.joined) given.ends _ _)
