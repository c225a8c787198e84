-- How the marks of a grammar go together: equations on `followed_by`, by which a text is read from left to right.
use Rattle.defs_tree.proofs.Common.{[], and_from, and_parts, any_number, ap, at_least_one, Bool, false, followed_by, if◌then◌else◌, inl, inr, is_empty, IsSplit, List, list_all, not, one, optional, or_cases, or_left, or_right, refl, subst, true, ℕ, ◌&&◌, ◌++◌, ◌||◌, ◌∙◌, ◌∷◌, ◌≡◌, ◌⊎◌, arith}

pub or-false : (x : Bool) → (x || false) ≡ x
or-false a = grind arith

-- ---- `followed_by`

nothing_first : (g : List ℕ → Bool) (t : List ℕ) → followed_by (λ b. false) g t ≡ false
nothing_first g [] = refl
nothing_first g (c ∷ cs) = nothing_first g cs

pub followed_by-empty : (f : List ℕ → Bool) (t : List ℕ) → followed_by f is_empty t ≡ f t
followed_by-empty f [] = grind arith
followed_by-empty f (c ∷ cs) = grind (arith, followed_by-empty (λ b. f (c ∷ b)) cs)

pub empty-followed_by : (g : List ℕ → Bool) (t : List ℕ) → followed_by is_empty g t ≡ g t
empty-followed_by g [] = refl
empty-followed_by g (c ∷ cs) = grind (arith, nothing_first g cs)

pub followed_by-and : (x : Bool) (f g : List ℕ → Bool) (t : List ℕ) → followed_by (λ b. x && f b) g t ≡ (x && followed_by f g t)
followed_by-and true f g t = refl
followed_by-and false f g t = nothing_first g t

pub followed_by-or : (f h g : List ℕ → Bool) (t : List ℕ) → followed_by (λ b. f b || h b) g t ≡ (followed_by f g t || followed_by h g t)
followed_by-or f h g [] = grind arith
followed_by-or f h g (c ∷ cs) = grind (arith, followed_by-or (λ b. f (c ∷ b)) (λ b. h (c ∷ b)) g cs)

pub followed_by-assoc : (f g h : List ℕ → Bool) (t : List ℕ) → followed_by (λ b. followed_by f g b) h t ≡ followed_by f (λ b. followed_by g h b) t
followed_by-assoc f g h [] = grind arith
followed_by-assoc f g h (c ∷ cs) =
    let f' = λ (b : List ℕ). f (c ∷ b) in
    let g' = λ (b : List ℕ). g (c ∷ b) in
    grind (
      arith,
      followed_by-or (λ b. f [] && g' b) (λ b. followed_by f' g b) h cs,
      followed_by-and (f []) g' h cs,
      followed_by-assoc f' g h cs,
    )

-- ---- read from the left

-- the language has no text that begins in the class
abbrev pub Rejects : (ℕ → Bool) → (List ℕ → Bool) → Type 0
Rejects class g = (c : ℕ) (cs : List ℕ) → class c ≡ true → g (c ∷ cs) ≡ false

-- what stands after the characters of a class at the beginning
abbrev pub after_all : (ℕ → Bool) → List ℕ → List ℕ
after_all class [] = []
after_all class (c ∷ cs) = if class c then after_all class cs else c ∷ cs

-- what stands after one character of a class at the beginning, if there is one
abbrev pub after_one : (ℕ → Bool) → List ℕ → List ℕ
after_one class [] = []
after_one class (c ∷ cs) = if class c then cs else c ∷ cs

pub one-then : (p : ℕ → Bool) (g : List ℕ → Bool) (c : ℕ) (cs : List ℕ) → followed_by (one p) g (c ∷ cs) ≡ (p c && g cs)
one-then p g c cs = followed_by-and (p c) is_empty g cs ∙ ap (λ x. p c && x) (empty-followed_by g cs)

pub optional-then : (f g : List ℕ → Bool) (t : List ℕ) → followed_by (optional f) g t ≡ (g t || followed_by f g t)
optional-then f g t = followed_by-or is_empty f g t ∙ ap (λ x. x || followed_by f g t) (empty-followed_by g t)

pub any-then : (p : ℕ → Bool) (g : List ℕ → Bool) (c : ℕ) (cs : List ℕ) → followed_by (any_number p) g (c ∷ cs) ≡ (g (c ∷ cs) || (p c && followed_by (any_number p) g cs))
any-then p g c cs = ap (λ x. g (c ∷ cs) || x) (followed_by-and (p c) (any_number p) g cs)

-- a class is read as far as it goes, where what follows doesn't begin in it
pub any-after : (p : ℕ → Bool) (g : List ℕ → Bool) → Rejects p g → (t : List ℕ) → followed_by (any_number p) g t ≡ g (after_all p t)
any-after p g r [] = refl
any-after p g r (c ∷ cs) = grind (arith, any-then, or-false, any-after p g r cs)

pub at_least-after : (p : ℕ → Bool) (g : List ℕ → Bool) → Rejects p g → (c : ℕ) (cs : List ℕ) → followed_by (at_least_one p) g (c ∷ cs) ≡ (p c && g (after_all p cs))
at_least-after p g r c cs = (followed_by-and (p c) (any_number p) g cs) ∙ ap (λ x. p c && x) (any-after p g r cs)

pub optional_one-after : (p : ℕ → Bool) (g : List ℕ → Bool) → Rejects p g → (t : List ℕ) → followed_by (optional (one p)) g t ≡ g (after_one p t)
optional_one-after p g r [] = optional-then (one p) g [] ∙ or-false (g [])
optional_one-after p g r (c ∷ cs) = optional-then (one p) g (c ∷ cs) ∙ ap (λ x. g (c ∷ cs) || x) (one-then p g c cs) ∙ by (p c) refl
  where
    by : (b : Bool) → p c ≡ b → (g (c ∷ cs) || (b && g cs)) ≡ g (if b then cs else c ∷ cs)
    by a e = grind (arith, or-false)

-- ---- what `followed_by` says: the text is cut

pub cut_from : (f g : List ℕ → Bool) (t : List ℕ) → followed_by f g t ≡ true → IsSplit f g t
cut_from f g [] h = let parts = and_parts (f []) (g []) h in record { before = []; after = []; whole = refl; is_first = parts.0; is_second = parts.1 }
cut_from f g (c ∷ cs) h = by (or_cases (f [] && g (c ∷ cs)) (followed_by (λ b. f (c ∷ b)) g cs) h) (cut_from (λ b. f (c ∷ b)) g cs)
  where
    by : ((f [] && g (c ∷ cs)) ≡ true) ⊎ (followed_by (λ b. f (c ∷ b)) g cs ≡ true) → (followed_by (λ b. f (c ∷ b)) g cs ≡ true → IsSplit (λ b. f (c ∷ b)) g cs) → IsSplit f g (c ∷ cs)
    by a later = grind (arith, and_parts)

joined_parts : (f g : List ℕ → Bool) (a b : List ℕ) → f a ≡ true → g b ≡ true → followed_by f g (a ++ b) ≡ true
joined_parts f g [] [] h e = and_from (f []) (g []) h e
joined_parts f g [] (c ∷ cs) h e = or_left (f [] && g (c ∷ cs)) (followed_by (λ b. f (c ∷ b)) g cs) (and_from (f []) (g (c ∷ cs)) h e)
joined_parts f g (c ∷ a) b h e = or_right (f [] && g (c ∷ (a ++ b))) (followed_by (λ d. f (c ∷ d)) g (a ++ b)) (joined_parts (λ d. f (c ∷ d)) g a b h e)

pub cut_to : (f g : List ℕ → Bool) (t : List ℕ) → IsSplit f g t → followed_by f g t ≡ true
cut_to f g t r = subst (λ u. followed_by f g u ≡ true) r.whole (joined_parts f g r.before r.after r.is_first r.is_second)

-- ---- the characters of a language's texts

-- each text of the language is of this class
abbrev pub IsWithin : (ℕ → Bool) → (List ℕ → Bool) → Type 0
IsWithin class f = (t : List ℕ) → f t ≡ true → list_all class t ≡ true

list_all-append : (class : ℕ → Bool) (a b : List ℕ) → list_all class a ≡ true → list_all class b ≡ true → list_all class (a ++ b) ≡ true
list_all-append class [] b h e = e
list_all-append class (c ∷ a) b h e = grind (arith, and_parts, list_all-append class a b)

pub list_all-more : (p q : ℕ → Bool) → ((c : ℕ) → p c ≡ true → q c ≡ true) → (t : List ℕ) → list_all p t ≡ true → list_all q t ≡ true
list_all-more p q more [] h = refl
list_all-more p q more (c ∷ cs) h = grind (arith, and_parts, list_all-more p q more cs)

pub IsWithin-followed_by : (class : ℕ → Bool) (f g : List ℕ → Bool) → IsWithin class f → IsWithin class g → IsWithin class (λ t. followed_by f g t)
IsWithin-followed_by class f g h e t is =
    let r = cut_from f g t is in subst (λ u. list_all class u ≡ true) r.whole (list_all-append class r.before r.after (h r.before r.is_first) (e r.after r.is_second))

pub IsWithin-empty : (class : ℕ → Bool) → IsWithin class is_empty
IsWithin-empty class a h = grind arith

pub IsWithin-one : (class p : ℕ → Bool) → ((c : ℕ) → p c ≡ true → class c ≡ true) → IsWithin class (one p)
IsWithin-one class p more a h = grind arith

pub IsWithin-any_number : (class p : ℕ → Bool) → ((c : ℕ) → p c ≡ true → class c ≡ true) → IsWithin class (any_number p)
IsWithin-any_number class p more t h = list_all-more p class more t h

pub IsWithin-at_least_one : (class p : ℕ → Bool) → ((c : ℕ) → p c ≡ true → class c ≡ true) → IsWithin class (at_least_one p)
IsWithin-at_least_one class p more t h = list_all-more p class more t (and_parts (not (is_empty t)) (list_all p t) h).1

pub IsWithin-optional : (class : ℕ → Bool) (f : List ℕ → Bool) → IsWithin class f → IsWithin class (optional f)
IsWithin-optional class f h a e = grind arith

pub IsWithin-or : (class : ℕ → Bool) (f g : List ℕ → Bool) → IsWithin class f → IsWithin class g → IsWithin class (λ t. f t || g t)
IsWithin-or class f g h e t is = grind arith

pub IsWithin-none : (class : ℕ → Bool) → IsWithin class (λ t. false)
IsWithin-none class t h = cc
