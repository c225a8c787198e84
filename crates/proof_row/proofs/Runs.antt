-- Tests that hold together, and texts of which each character is of a class.
use Rattle.std.proofs.Common.{[], Bool, false, List, not, refl, true, ℕ, ◌&&◌, ◌++◌, ◌||◌, ◌∷◌, ◌≡◌, arith}
use Rattle.defs_text.specs.Tags.{all_of}

-- ---- tests

pub both : (x y : Bool) → (x && y) ≡ true → (x ≡ true) × (y ≡ true)
both a y h = grind arith

pub joined : (x y : Bool) → x ≡ true → y ≡ true → (x && y) ≡ true
joined a y h k = cc

pub untrue : (x : Bool) → not x ≡ true → x ≡ false
untrue a h = grind arith

pub contrary : (x : Bool) → x ≡ true → x ≡ false → ⊥
contrary x h k = cc

pub neither : (x y : Bool) → (x || y) ≡ false → (x ≡ false) × (y ≡ false)
neither a y h = grind arith

pub same_head : (c d : ℕ) (r s : List ℕ) → c ∷ r ≡ d ∷ s → (c ≡ d) × (r ≡ s)
same_head c d r s e = grind arith

pub longer : (c d : ℕ) (r s : List ℕ) → c ≡ d → r ≡ s → c ∷ r ≡ d ∷ s
longer c d r s e f = cc

-- ---- runs

-- whether a text does not begin with a character of a class
abbrev pub ends_run : (ℕ → Bool) → List ℕ → Bool
ends_run class [] = true
ends_run class (c ∷ r) = not (class c)

-- a run of characters of a class, before a text that begins with no other one, has one end
pub runs : (class : ℕ → Bool) (p q x y : List ℕ) → all_of class p ≡ true → all_of class q ≡ true → ends_run class x ≡ true → ends_run class y ≡ true → p ++ x ≡ q ++ y → (p ≡ q) × (x ≡ y)
runs class [] [] x y h k f g e = (refl, e)
runs class (c ∷ p) (d ∷ q) x y h k f g e = grind (arith, same_head, both, longer, runs class p q x y)
runs class _ _ x y h k f g e = grind (arith, contrary, both, untrue)
