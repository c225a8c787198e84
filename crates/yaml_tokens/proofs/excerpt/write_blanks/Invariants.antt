use Rattle.std.proofs.Common.{◌≡◌, chars, List, ℕ, ◌++◌, encode_utf8_all, map, take}
use Rattle.std.specs.Fmt.{HasWritten, IsPlainFormatter}
use denote.Text.{Utf8}
use denote.Shadow.{shadow}
use Rattle.yaml_tokens.specs.Excerpt.{blank}
use Rattle.yaml_tokens.proofs.excerpt.write_blanks.Given as goal

abbrev pub invariant-blanks : goal.invariant-blanks
invariant-blanks g l =
    shadow (Utf8 l.rest)
    × (IsPlainFormatter l.fn.f
    → (done : List ℕ) × HasWritten g.W.Write.write_str_gives l.fn.f done l.f
    × (done ++ encode_utf8_all (map blank (take l.left (chars l.rest))) ≡ encode_utf8_all (map blank (take l.fn.count (chars l.fn.text)))))

abbrev pub decreases-blanks : goal.decreases-blanks
decreases-blanks g l = l.left
