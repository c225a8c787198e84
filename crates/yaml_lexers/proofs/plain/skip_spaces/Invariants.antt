use Rattle.yaml_lexers.proofs.Common.{at_folded, between, Context, Folded, plain_from, Position, Reads, true, ◌≡◌}
use Rattle.yaml_lexers.proofs.plain.skip_spaces.Given as goal

abbrev pub invariant-spaces : goal.invariant-spaces
invariant-spaces g l = Reads l.fn.window l.window (λ a b. (context : Context) (start : Position) (t : Folded) → t.leading ≡ true →
    plain_from context start a (at_folded between l.fn.window t) ≡ plain_from context start b (at_folded between l.window t))

abbrev pub decreases-spaces : goal.decreases-spaces
decreases-spaces g l = l.window.left
