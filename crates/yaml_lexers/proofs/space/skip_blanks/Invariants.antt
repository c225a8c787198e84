use Rattle.yaml_lexers.proofs.Common.{blanks, position_of, Reads, ◌≡◌}
use Rattle.yaml_lexers.proofs.space.skip_blanks.Given as goal

abbrev pub invariant-blanks : goal.invariant-blanks
invariant-blanks g l = Reads l.fn.window l.window (λ a b. blanks a (position_of l.fn.window) ≡ blanks b (position_of l.window))

abbrev pub decreases-blanks : goal.decreases-blanks
decreases-blanks g l = l.window.left
