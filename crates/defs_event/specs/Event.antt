-- The events of a YAML stream, as clauses see them. YAML 1.2, section 3.1 (the serialization as events).
use Rattle.std.specs.Prelude.{ℕ, List, Option}
use Rattle.defs_token.specs.Token.{Style}

-- A tag. In a `Raw` event it stands as it was written, in an `Ev` with its handle's prefix in the handle's position.
pub record Tag : Type 0 where
  pub handle : List ℕ
  pub suffix : List ℕ

-- An event. An anchor is its number, 0 where there is none.
pub data Ev : Type 0 where
  nothing : Ev
  stream_start : Ev
  stream_end : Ev
  document_start : Ev
  document_end : Ev
  alias : (number : ℕ) → Ev
  scalar : (text : List ℕ) → Style → (anchor : ℕ) → Option Tag → Ev
  sequence_start : (anchor : ℕ) → Option Tag → Ev
  sequence_end : Ev
  mapping_start : (anchor : ℕ) → Option Tag → Ev
  mapping_end : Ev
