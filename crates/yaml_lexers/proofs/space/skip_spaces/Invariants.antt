use Rattle.yaml_lexers.proofs.Common.{position_of, Reads, space, space_from, ◌≡◌}
use Rattle.yaml_lexers.proofs.space.skip_spaces.Given as goal

abbrev pub invariant-space : goal.invariant-space
invariant-space g l = Reads l.fn.window l.window (λ a b. space l.fn.tabs a (position_of l.fn.window) ≡ space_from l.fn.tabs b (record { position = position_of l.window; found = l.found }))

abbrev pub decreases-space : goal.decreases-space
decreases-space g l = l.window.left
