use Rattle.std.proofs.Common.{◌≡◌, chars, drop}
use denote.Text.{Utf8}
use denote.Shadow.{shadow}
use Rattle.yaml_tokens.proofs.line.after.Given as goal

abbrev pub invariant-skipped : goal.invariant-skipped
invariant-skipped l = shadow (Utf8 l.rest) × (drop l.left (chars l.rest) ≡ drop l.fn.count (chars l.fn.text))

abbrev pub decreases-skipped : goal.decreases-skipped
decreases-skipped l = l.left
