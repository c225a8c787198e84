-- How a writer stands after a function that writes a text to it. `gives` relates the writer before a call of `put` that answers
-- `Ok`, the characters, and the writer after it; `leaves` does so of a call that answers `Err`.
use Rattle.std.specs.Prelude.{ℕ, ◌≡◌, ◌⊎◌, List, ◌++◌, Result, IsOk, IsErr}
use Rattle.std.specs.List.{FoldsTo, concat}
use Rattle.std.specs.declared.fmt.Error.{Error}

-- some calls took the writer from w to v, and together wrote the text
pub record Wrote {W : Type 0} (gives : W → List ℕ → W → Type 0) (w : W) (text : List ℕ) (v : W) : Type 0 where
  pub parts : List (List ℕ)
  pub calls : FoldsTo gives w parts v
  pub whole : concat parts ≡ text

-- a call was refused that was to write the beginning of the text
pub record IsRefused {W : Type 0} (leaves : W → List ℕ → W → Type 0) (w : W) (text : List ℕ) (v : W) : Type 0 where
  pub piece : List ℕ
  pub rest : List ℕ
  pub refused : leaves w piece v
  pub whole : piece ++ rest ≡ text

-- a beginning of the text was written, and then a call was refused that was to write more of it, or nothing more was written for
-- the reason given
pub record Stopped {W : Type 0} (gives leaves : W → List ℕ → W → Type 0) (reason : Type 0) (w : W) (text : List ℕ) (v : W) : Type 0 where
  pub written : List ℕ
  pub rest : List ℕ
  pub at : W
  pub wrote : Wrote gives w written at
  pub whole : written ++ rest ≡ text
  pub end : IsRefused leaves at rest v ⊎ (reason × (v ≡ at))

-- how a function that writes the text left the writer: `Ok` where it was written, in some calls; `Err` where one of them was refused
-- or the reason holds
pub record WritesUnless {W E : Type 0} (reason : Type 0) (gives leaves : W → List ℕ → W → Type 0) (w : W) (r : Result (Unit {0}) E) (text : List ℕ) (v : W) : Type 0 where
  pub ok : IsOk r → Wrote gives w text v
  pub err : IsErr r → Stopped gives leaves reason w text v

-- `Err` only where a call was refused
abbrev pub Writes : {W : Type 0} → (W → List ℕ → W → Type 0) → (W → List ℕ → W → Type 0) → W → Result (Unit {0}) Error → List ℕ → W → Type 0
Writes gives leaves w r text v = WritesUnless ⊥ gives leaves w r text v

-- of the text a beginning was written, and the rest is still to be written
pub record IsLeft {W : Type 0} (gives : W → List ℕ → W → Type 0) (w : W) (text : List ℕ) (v : W) (rest : List ℕ) : Type 0 where
  pub written : List ℕ
  pub wrote : Wrote gives w written v
  pub whole : written ++ rest ≡ text
