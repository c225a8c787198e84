-- A scalar in quotes has one end: no quote that would end it stands inside a body that has a value.
use Rattle.proof_row.proofs.Common.{[], append-nil, append_assoc, arith, begins_with, Bool, double_quote, double_quoted_element, double_quoted_value, DoubleQuotedScalarsHaveOneEnd, Element, elements, eqb-true, escape, false, folded_elements, followed, has_document_marker, if◌then◌else◌, is_nul, IsDoubleQuoted, IsSingleQuoted, length, length-take, List, None, numeric_escape, Option, plain_element, refl, single_quote, single_quoted_element, single_quoted_value, SingleQuotedScalarsHaveOneEnd, Some, Spelled, suc, take-append-le, true, zero, ℕ, ◌++◌, ◌==◌, ◌∷◌, ◌≡◌, ◌≤◌, ◌⊎◌, contrary, same_head}
use Rattle.proof_row.proofs.Splits.{More, splits}

-- ---- an element is its own characters

-- What is found before a text, if it is found, lies in that text, and is found before a longer text too.
abbrev Onward : List ℕ → (here longer : Option Spelled) → Type 0
Onward r None o = Unit {0}
Onward r (Some s) o = (s.further ≤ length r) × (o ≡ Some s)

abbrev IsOnward : (ℕ → List ℕ → Option Spelled) → Type 0
IsOnward at = (c : ℕ) (r z : List ℕ) → begins_with 10 z ≡ false → Onward r (at c r) (at c (r ++ z))

-- single quotes
single_onward : IsOnward single_quoted_element
unfolding single_quoted_element plain_element
single_onward c r z h = grind arith

-- ---- double quotes

numeric_onward : (n d : ℕ) (r z : List ℕ) → Onward (d ∷ r) (numeric_escape n r) (numeric_escape n (r ++ z))
unfolding numeric_escape
numeric_onward n d r z = grind (arith, eqb-true, length-take, take-append-le)

escape_onward : (r z : List ℕ) → begins_with 10 z ≡ false → Onward r (escape r) (escape (r ++ z))
unfolding escape
escape_onward a z h = grind (arith, numeric_onward)

double_onward : IsOnward double_quoted_element
unfolding double_quoted_element plain_element
double_onward c r z h = grind (arith, escape_onward)

-- ---- a body

abbrev is_read : Option (List Element) → Bool
is_read None = false
is_read (Some es) = true

-- If a text is read, and also with more after it, the more is read.
reads : (at : ℕ → List ℕ → Option Spelled) → IsOnward at → (n : ℕ) (b z : List ℕ) → n ≤ length b → begins_with 10 z ≡ false →
    is_read (elements at n b) ≡ true → is_read (elements at n (b ++ z)) ≡ true → is_read (elements at 0 z) ≡ true
reads at f zero [] z l h i j = j
reads at f (suc n) [] z l h i j = absurd (omega arith)
reads at f (suc n) (c ∷ b) z l h i j = reads at f n b z (omega (arith, l)) h i j
reads at f zero (c ∷ b) z l h i j = by (at c b) (at c (b ++ z)) (f c b z h) i j (λ n l i j. reads at f n b z l h i j)
  where
    by : (o more : Option Spelled) → Onward b o more → is_read (followed o (λ n. elements at n b)) ≡ true → is_read (followed more (λ n. elements at n (b ++ z))) ≡ true →
        ((n : ℕ) → n ≤ length b → is_read (elements at n b) ≡ true → is_read (elements at n (b ++ z)) ≡ true → is_read (elements at 0 z) ≡ true) → is_read (elements at 0 z) ≡ true
    by a more g i j d = grind (arith, elements, at, is_read)

-- ---- two bodies

read_elements : (marked : Bool) (o : Option (List Element)) (text : List ℕ) → (if marked then None else folded_elements o) ≡ Some text → is_read o ≡ true
read_elements a o b h = grind arith

-- Of two bodies, each with its quote after it, none goes on over the quote of the other. A test of the text after a quote says where a quote is none that ends.
bodies : (at : ℕ → List ℕ → Option Spelled) → IsOnward at → (quote : ℕ) → (quote == 10) ≡ false → (again : List ℕ → Bool) →
    ((z y : List ℕ) → again (z ++ (quote ∷ y)) ≡ false → is_read (elements at 0 (quote ∷ z)) ≡ false) →
    (b d x y : List ℕ) → is_read (elements at 0 b) ≡ true → is_read (elements at 0 d) ≡ true → again x ≡ false → again y ≡ false → b ++ (quote ∷ x) ≡ d ++ (quote ∷ y) → (b ≡ d) × (x ≡ y)
bodies at f quote lf again stop b d x y h k i j e = by (splits b d (quote ∷ x) (quote ∷ y) e)
  where
    over : (b d x y more : List ℕ) → d ≡ b ++ more → quote ∷ x ≡ more ++ (quote ∷ y) → is_read (elements at 0 b) ≡ true → is_read (elements at 0 d) ≡ true → again x ≡ false → (b ≡ d) × (x ≡ y)
    over b d x y a g l h k i = grind (arith, append-nil, same_head, contrary, reads)

    by : More b d (quote ∷ x) (quote ∷ y) ⊎ More d b (quote ∷ y) (quote ∷ x) → (b ≡ d) × (x ≡ y)
    by a = grind (arith, over)

-- two pieces that are a body between quotes
between : (quote : ℕ) (p q b d x y : List ℕ) → p ≡ quote ∷ (b ++ (quote ∷ [])) → q ≡ quote ∷ (d ++ (quote ∷ [])) → p ++ x ≡ q ++ y → b ++ (quote ∷ x) ≡ d ++ (quote ∷ y)
between quote p q b d x y f g e = grind (arith, same_head, append_assoc)

-- The bodies of two scalars in single quotes, and what follows these.
pub single_bodies : (p q x y s t : List ℕ) → (h : IsSingleQuoted p x s) → (k : IsSingleQuoted q y t) → p ++ x ≡ q ++ y → (h.0 ≡ k.0) × (x ≡ y)
unfolding single_quoted_value single_quoted_element is_nul
single_bodies p q x y s t h k e =
    bodies single_quoted_element single_onward single_quote refl (begins_with single_quote) (λ z y h. grind arith) h.0 k.0 x y
    (read_elements (has_document_marker h.0) (elements single_quoted_element 0 h.0) s h.2) (read_elements (has_document_marker k.0) (elements single_quoted_element 0 k.0) t k.2)
    h.3 k.3 (between single_quote p q h.0 k.0 x y h.1 k.1 e)

pub singles : SingleQuotedScalarsHaveOneEnd
singles p q x y h k e = let same : (h.1.0 ≡ k.1.0) × (x ≡ y) = single_bodies p q x y h.0 k.0 h.1 k.1 e in grind arith

-- The bodies of two scalars in double quotes, and what follows these.
pub double_bodies : (p q x y s t : List ℕ) → (h : IsDoubleQuoted p x s) → (k : IsDoubleQuoted q y t) → p ++ x ≡ q ++ y → (h.0 ≡ k.0) × (x ≡ y)
unfolding double_quoted_value double_quoted_element is_nul
double_bodies p q x y s t h k e =
    bodies double_quoted_element double_onward double_quote refl (λ z. false) (λ z y h. refl) h.0 k.0 x y
    (read_elements (has_document_marker h.0) (elements double_quoted_element 0 h.0) s h.2) (read_elements (has_document_marker k.0) (elements double_quoted_element 0 k.0) t k.2)
    refl refl (between double_quote p q h.0 k.0 x y h.1 k.1 e)

pub doubles : DoubleQuotedScalarsHaveOneEnd
doubles p q x y h k e = let same : (h.1.0 ≡ k.1.0) × (x ≡ y) = double_bodies p q x y h.0 k.0 h.1 k.1 e in grind arith
