use Rattle.std.specs.Prelude.{◌≡◌}
use Rattle.yaml_rust2.specs.Scanned.{scanned}
use Rattle.uses.proofs.rows.take_all.Given as goal

abbrev pub invariant-tokens : goal.invariant-tokens
invariant-tokens g l = record { start : l.scanner.start ≡ l.initial.scanner.start }

abbrev pub decreases-tokens : goal.decreases-tokens
decreases-tokens g l = (scanned l.scanner).left
