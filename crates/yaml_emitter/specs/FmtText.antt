-- What is written to a `fmt::Write`, whose own clause is on bytes.
use Rattle.std.specs.Prelude.{ℕ, ◌≡◌, List, chars}
use Rattle.std.specs.Fmt.{IsPlainFormatter, HasWritten}
use Rattle.std.specs.Str.{encode_utf8_all}
use Rattle.std.specs.declared.fmt.Formatter.{Formatter}
use Rattle.yaml_emitter.specs.declared.fmt_writer.FmtWriter.{FmtWriter}

-- what was handed over
abbrev pub inner_of : {W : Type 0} → FmtWriter W → W
inner_of w = w.inner

-- it took bytes that spell the characters
pub record TakesText {W : Type 0} (takes : W → List ℕ → W → Type 0) (v : FmtWriter W) (text : List ℕ) (w : FmtWriter W) : Type 0 where
  pub bytes : List ℕ
  pub spells : chars bytes ≡ text
  pub took : takes (inner_of v) bytes (inner_of w)

-- a formatter that formats as `{}` does took the characters
abbrev pub TakesPlain : {W : Type 0} → (W → List ℕ → W → Type 0) → Formatter W → List ℕ → Formatter W → Type 0
TakesPlain takes f text g = IsPlainFormatter f → HasWritten takes f (encode_utf8_all text) g
