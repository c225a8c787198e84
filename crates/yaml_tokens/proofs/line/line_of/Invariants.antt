use Rattle.std.proofs.Common.{ℕ, ◌+◌, ◌≤◌, chars}
use denote.Text.{Utf8}
use denote.Shadow.{shadow}
use Rattle.yaml_tokens.proofs.LineLemmas.{IsAt}
use Rattle.yaml_tokens.proofs.line.line_of.Given as goal

abbrev pub invariant-characters : goal.invariant-characters
invariant-characters l =
    shadow (Utf8 l.line) × shadow (Utf8 l.rest) × (l.column + l.left ≤ l.fn.index) × IsAt (chars l.fn.text) l.fn.index (chars l.line) l.column (chars l.rest) l.left

abbrev pub decreases-characters : goal.decreases-characters
decreases-characters l = l.left
