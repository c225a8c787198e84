use Rattle.yaml_scanner.proofs.Common.{[], ap, has_end, map, Tok, token, ◌∷◌, ◌≡◌}
use Rattle.yaml_tokens.specs.Shown.{shown}
use Rattle.yaml_scanner.proofs.QueueLemmas.{waits_alone}
use Rattle.yaml_scanner.proofs.queue.Queue.pass_value.Goals as goal

pub invariant_of-self : goal.invariant_of-self
invariant_of-self c =
    let items = c.self.inside.waiting.items in
    let value = token c.requires.0 Tok.value in
    let alone : map shown items ≡ value ∷ [] = waits_alone c.self.inside.given.items items value (rw (← c.self.view_is) at c.requires.1) in (λ e o. absurd (cc (c.self.invariant e o, ap has_end alone)))
