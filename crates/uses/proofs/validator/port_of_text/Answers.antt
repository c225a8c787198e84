use Rattle.std.proofs.Common.{subst}
use Rattle.uses.proofs.Ports.{first_port_is, no_first_port, first_judged}
use Rattle.uses.specs.Ports.{JudgesNode}
use Rattle.uses.proofs.validator.port_of_text.Goals as goal

pub returns-in-Some : goal.returns-in-Some
returns-in-Some c =
    let said = subst (λ o. JudgesNode o c.port.result) (first_port_is _ _ _ _ c.in-Some.ensures.trees c.in-Some.ensures.marks) c.port.ensures in
    first_judged _ _ _ _ c.in-Ok.ensures.reads c.in-Ok.ensures.marks said

pub returns : goal.returns
returns c = no_first_port _ _ _ c.in-Ok.ensures.reads c.in-Ok.ensures.marks c.in-None.ensures.trees
