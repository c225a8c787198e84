use Rattle.std.proofs.Common.{◌≡◌, chars, List, ℕ, ◌++◌, encode_utf8_all, length}
use Rattle.std.specs.Fmt.{HasWritten, IsPlainFormatter}
use denote.Text.{Utf8}
use denote.Shadow.{shadow}
use Rattle.yaml_tokens.specs.Excerpt.{shown_line}
use Rattle.yaml_tokens.proofs.excerpt.write_line.Given as goal

abbrev pub invariant-shown : goal.invariant-shown
invariant-shown g l =
    shadow (Utf8 l.rest)
    × (IsPlainFormatter l.fn.f
    → (done : List ℕ) × HasWritten g.W.Write.write_str_gives l.fn.f done l.f
    × (done ++ encode_utf8_all (shown_line l.left (chars l.rest)) ≡ encode_utf8_all (shown_line 80 (chars l.fn.text))))

abbrev pub decreases-shown : goal.decreases-shown
decreases-shown g l = length l.rest
