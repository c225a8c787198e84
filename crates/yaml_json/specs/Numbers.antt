-- The parts of a JSON number, each from where it begins to what stands behind it.
use Rattle.std.specs.Prelude.{◌≡◌, ℕ, Bool, true, List, ◌++◌}
use Rattle.defs_layout.specs.JsonNumber.{Number, Fraction, Exponent, Sign, spell_number, spell_minus, spell_fraction, spell_sign, spell_exponent, is_number, is_whole, is_fraction, is_exponent, are_digits}

pub record IsDigits (text rest : List ℕ) : Type 0 where
  pub digits : List ℕ
  pub are : are_digits digits ≡ true
  pub spelled : digits ++ rest ≡ text

pub record IsMinus (text rest : List ℕ) : Type 0 where
  pub is_negative : Bool
  pub spelled : spell_minus is_negative rest ≡ text

pub record IsWhole (text rest : List ℕ) : Type 0 where
  pub digits : List ℕ
  pub is : is_whole digits ≡ true
  pub spelled : digits ++ rest ≡ text

pub record IsFractionPart (text rest : List ℕ) : Type 0 where
  pub part : Fraction
  pub is : is_fraction part ≡ true
  pub spelled : spell_fraction part rest ≡ text

pub record IsSign (text rest : List ℕ) : Type 0 where
  pub sign : Sign
  pub spelled : spell_sign sign rest ≡ text

pub record IsExponentPart (text rest : List ℕ) : Type 0 where
  pub part : Exponent
  pub is : is_exponent part ≡ true
  pub spelled : spell_exponent part rest ≡ text

pub record IsNumberPart (text rest : List ℕ) : Type 0 where
  pub parts : Number
  pub is : is_number parts ≡ true
  pub spelled : spell_number parts rest ≡ text
