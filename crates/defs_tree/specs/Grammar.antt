-- Grammars on whole texts. A language is a test that says of a text whether it belongs.
-- These are the operators of a grammar: a class, `*`, `+`, `?`, sequence, and choice.
use Rattle.std.specs.Prelude.{◌≡◌, ◌++◌, IsTrue, ℕ, Bool, true, false, not, ◌&&◌, ◌||◌, List, [], ◌∷◌, bytes_eq}
use Rattle.std.specs.List.{list_any, list_all}
use Rattle.defs_text.specs.Text.{is_empty}

-- one character of a class
abbrev pub one : (ℕ → Bool) → List ℕ → Bool
one class [] = false
one class (c ∷ cs) = class c && is_empty cs

-- any number of characters of a class
abbrev pub any_number : (ℕ → Bool) → List ℕ → Bool
any_number class text = list_all class text

-- at least one character, and all of a class
abbrev pub at_least_one : (ℕ → Bool) → List ℕ → Bool
at_least_one class text = not (is_empty text) && list_all class text

-- a text of the language, or nothing
abbrev pub optional : (List ℕ → Bool) → List ℕ → Bool
optional language text = is_empty text || language text

-- the text can be split so that the part before is of the first language, and the part after of the second
abbrev pub followed_by : (List ℕ → Bool) → (List ℕ → Bool) → List ℕ → Bool
followed_by first second [] = first [] && second []
followed_by first second (c ∷ cs) = (first [] && second (c ∷ cs)) || followed_by (λ before. first (c ∷ before)) second cs

-- texts of each of the languages, one after the other
abbrev pub in_order : List (List ℕ → Bool) → List ℕ → Bool
in_order [] text = is_empty text
in_order (l ∷ ls) text = followed_by l (in_order ls) text

-- a text of one of the languages
abbrev pub one_of : List (List ℕ → Bool) → List ℕ → Bool
one_of ls text = list_any (λ l. l text) ls

-- one of these words
abbrev pub is_among : List (List ℕ) → List ℕ → Bool
is_among words text = list_any (λ w. bytes_eq w text) words

-- a text in two parts, the one of the first language, the other of the second
pub record IsSplit (first second : List ℕ → Bool) (text : List ℕ) : Type 0 where
  pub before : List ℕ
  pub after : List ℕ
  pub whole : before ++ after ≡ text
  pub is_first : IsTrue (first before)
  pub is_second : IsTrue (second after)
