-- What typing gives, and that a plain spelling stands for its scalar.
use Rattle.defs_tree.proofs.Common.{[], and_parts, Bool, boolean, by_rows, false, fits_i64, inl, inr, integer, is_among, is_decimal, is_none, is_real, is_real_text, is_string, IsTrue, List, list_all, MayStandFor, None, null, Option, option_and_then, option_map, real, refl, rows, signed_number, Some, special_words, string, Tree, true, typing, unwrap_or, where_true, ℕ, ℤ, ◌∷◌, ◌≡◌, ◌⊎◌, arith}

-- a fact of what a row gives, where it gives something
abbrev pub OfSome : {A : Type 0} → (A → Type 0) → Option A → Type 0
OfSome P None = Unit {0}
OfSome P (Some t) = P t

or_else : (P : Tree → Type 0) (o : Option Tree) (t : Tree) → OfSome P o → P t → P (unwrap_or o t)
or_else a b t h r = grind arith

OfSome-where : (P : Tree → Type 0) (b : Bool) (t : Tree) → (b ≡ true → P t) → OfSome P (where_true b t)
OfSome-where a b t h = grind arith

-- ---- integers fit

pub signed_number-fits : (base : ℕ) (text : List ℕ) → OfSome (λ z. IsTrue (fits_i64 z)) (signed_number base text)
signed_number-fits base text = grind arith

-- ---- what typing gives

-- a fact of what each of the rows gives
AllHave : (Tree → Type 0) → List (List ℕ → Option Tree) → List ℕ → Type 0
AllHave P [] text = Unit {0}
AllHave P (row ∷ rest) text = OfSome P (row text) × AllHave P rest text

by_rows-have : (P : Tree → Type 0) (rs : List (List ℕ → Option Tree)) (text : List ℕ) → AllHave P rs text → P (string text)
    → P (by_rows rs text)
unfolding AllHave
by_rows-have P [] text h r = r
by_rows-have P (row ∷ rest) text h r = or_else P (row text) (by_rows rest text) h.0 (by_rows-have P rest text h.1 r)

-- the rows give integers of 64 bits, null, booleans, and the text as a real if it is a special word or of the decimal grammar
module _ (P : Tree → Type 0) (integers : (z : ℤ) → IsTrue (fits_i64 z) → P (integer z)) where
  integer_row : (o : Option ℤ) → OfSome (λ z. IsTrue (fits_i64 z)) o → OfSome P (option_map integer o)
  integer_row o h = grind arith

  after_row : (base : ℕ) (o : Option (List ℕ)) → OfSome P (option_map integer (option_and_then (signed_number base) o))
  after_row base None = tt
  after_row base (Some text) = integer_row (signed_number base text) (signed_number-fits base text)

  rows_have : (text : List ℕ) → P null → ((b : Bool) → P (boolean b)) → (is_among special_words text ≡ true → P (real text))
      → (is_decimal text ≡ true → P (real text)) → AllHave P rows text
  unfolding AllHave
  rows_have text n b s d = search (after_row, integer_row, signed_number-fits, OfSome-where, n, b, s, d)

pub typing_plain : (text : List ℕ) → MayStandFor text (typing text)
unfolding typing
typing_plain text =
    by_rows-have (MayStandFor text) rows text (rows_have (MayStandFor text) (λ z h. h) text tt (λ b. tt) (λ s. refl) (λ d. refl)) refl

pub typing-real : (text : List ℕ) → is_real_text text ≡ true → typing text ≡ real text
typing-real text e = real_of_plain (typing text) (typing_plain text) e
  where
    real_of_plain : (t : Tree) → MayStandFor text t → is_real t ≡ true → t ≡ real text
    real_of_plain t h e = grind arith

pub typing-string : (text : List ℕ) → is_string (typing text) ≡ true → typing text ≡ string text
typing-string text e = string_of_plain (typing text) (typing_plain text) e
  where
    string_of_plain : (t : Tree) → MayStandFor text t → is_string t ≡ true → t ≡ string text
    string_of_plain t h e = grind arith

-- ---- strings fit no row

abbrev NotString : Tree → Type 0
NotString t = is_string t ≡ false

no_row-string : (rs : List (List ℕ → Option Tree)) (text : List ℕ) → list_all (λ row. is_none (row text)) rs ≡ true → by_rows rs text ≡ string text
no_row-string [] text h = refl
no_row-string (row ∷ rest) text h = grind (arith, and_parts, no_row-string rest text)

string-no_row : (rs : List (List ℕ → Option Tree)) (text : List ℕ) → AllHave NotString rs text → by_rows rs text ≡ string text
    → list_all (λ row. is_none (row text)) rs ≡ true
unfolding AllHave
string-no_row [] text h e = refl
string-no_row (row ∷ rest) text h e = grind (arith, string-no_row rest text h.1)

pub strings_exactly : (text : List ℕ) → (typing text ≡ string text → list_all (λ row. is_none (row text)) rows ≡ true) × (list_all (λ row. is_none (row text)) rows ≡ true → typing text ≡ string text)
unfolding typing
strings_exactly text =
    (string-no_row rows text (rows_have NotString (λ z h. refl) text refl (λ b. refl) (λ s. refl) (λ d. refl)), no_row-string rows text)

-- ---- real texts

abbrev FromRealRow : List ℕ → Tree → Type 0
FromRealRow text t = is_real t ≡ true → (is_among special_words text ≡ true) ⊎ (is_decimal text ≡ true)

-- a real text is one of the special words or of the decimal grammar
pub real_text-cases : (text : List ℕ) → is_real_text text ≡ true → (is_among special_words text ≡ true) ⊎ (is_decimal text ≡ true)
unfolding typing
real_text-cases text =
    by_rows-have (FromRealRow text) rows text
    (rows_have (FromRealRow text) (λ z h e. cc) text (λ e. cc) (λ b e. cc) (λ s e. inl s) (λ d e. inr d)) (λ e. cc)
