-- What an excerpt holds, and how it is written.
use Rattle.std.specs.Prelude.{ℕ, List, [], if◌then◌else◌, take, drop, codes, chars, encode_utf8_all}
use Rattle.std.specs.Prelude.{Result}
use Rattle.std.specs.declared.fmt.Formatter.{Formatter}
use Rattle.std.specs.declared.fmt.Error.{Error}
use Rattle.yaml_tokens.specs.declared.excerpt.Excerpt.{Excerpt}
use Rattle.yaml_tokens.specs.Excerpt.{shown}
use Rattle.std.specs.Fmt.{WritesOnOk}

-- what stands for the characters that are left out at the line's start
abbrev pub mark_of : Excerpt → List ℕ
mark_of e = (if e.is_cut then codes "..." else [])

-- the text that an excerpt shows
abbrev pub shown_by : Excerpt → List ℕ
shown_by e = shown (mark_of e) (take e.column (chars e.line.now)) (drop e.column (chars e.line.now))

-- these characters are written, if the writes succeed
abbrev pub WritesText : {W : Type 0} → (W → List ℕ → W → Type 0) → Formatter W → Result (Unit {0}) Error → List ℕ → Formatter W → Type 0
WritesText gives f r text g = WritesOnOk gives f r (encode_utf8_all text) g
