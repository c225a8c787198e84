-- A list of nodes or pairs whose members are taken one by one.
use Rattle.yaml_emitter.proofs.Common.{[], ap, append_assoc, arith, Bool, false, IsErr, IsLeft, left_after, left_all, left_as, left_none, left_stopped, List, max, refl, Result, Stopped, stopped_early, subst, sym, true, writes_err, WritesUnless, Wrote, ℕ, ◌++◌, ◌∙◌, ◌∷◌, ◌≡◌, ◌≤◌}

-- ---- a measure of a list that is the greatest of its members'

pub record IsMeasure {X : Type 0} (own : X → ℕ) (all : List X → ℕ) : Type 0 where
  pub greatest : (x : X) (xs : List X) → all (x ∷ xs) ≡ max (own x) (all xs)

-- of the first member, and of those after it
within : {X : Type 0} {own : X → ℕ} {all : List X → ℕ} {x : X} {xs rest : List X} → IsMeasure own all → xs ≡ x ∷ rest
    → (own x ≤ all xs) × (all rest ≤ all xs)
within {all = all} {x} {rest = rest} m e = let g = ap all e ∙ m.greatest x rest in (omega (arith, g), omega (arith, g))

-- ---- members that are found fit, one by one

-- how deep one member stands, and the deepest of them; what each is to meet, and all of them
pub record Members (X : Type 0) : Type 1 where
  pub own_depth : X → ℕ
  pub depth : List X → ℕ
  pub deepest : IsMeasure own_depth depth
  pub IsFit : X → Type 0
  pub AreFit : List X → Type 0
  pub none_fit : AreFit []
  pub more_fit : (x : X) (xs : List X) → IsFit x → AreFit xs → AreFit (x ∷ xs)

-- of a list that begins with one
pub fit_from : {X : Type 0} (m : Members X) {xs rest : List X} {x : X} → xs ≡ x ∷ rest → m.IsFit x → m.AreFit rest → m.AreFit xs
fit_from m {rest = rest} {x} e f fs = subst m.AreFit (sym e) (m.more_fit x rest f fs)

-- the members that are left decide for all
pub record Decide {X : Type 0} (m : Members X) (all rest : List X) : Type 0 where
  pub no_deeper : m.depth rest ≤ m.depth all
  pub fit : m.AreFit rest → m.AreFit all

pub all_decide : {X : Type 0} {m : Members X} {rest all : List X} → rest ≡ all → Decide m all rest
all_decide e = rw e (record { no_deeper = omega arith; fit = λ f. f })

module _ {X : Type 0} {m : Members X} {all xs : List X} (d : Decide m all xs) where
  pub rest_decides : {rest : List X} {x : X} → xs ≡ x ∷ rest → m.IsFit x → Decide m all rest
  rest_decides e f = record { no_deeper = omega (arith, (within m.deepest e).1, d.no_deeper); fit = λ fs. d.fit (fit_from m e f fs) }

  pub none_decide : xs ≡ [] → m.AreFit all
  none_decide e = d.fit (rw e m.none_fit)

  pub first_within : {rest : List X} {x : X} → xs ≡ x ∷ rest → m.own_depth x ≤ m.depth all
  first_within e = omega (arith, (within m.deepest e).0, d.no_deeper)

-- ---- members that are written, one by one

-- what stands before an entry, that entry, and the text of all which are left, where none or some were written
pub record Entries (X : Type 0) : Type 1 where
  pub members : Members X
  pub own_levels : X → ℕ
  pub levels : List X → ℕ
  pub highest : IsMeasure own_levels levels
  pub before : (is_first : Bool) → List ℕ
  pub part : X → List ℕ
  pub text : (is_first : Bool) → List X → List ℕ
  pub none_text : (is_first : Bool) → text is_first [] ≡ []
  pub more_text : (is_first : Bool) (x : X) (xs : List X) → text is_first (x ∷ xs) ≡ before is_first ++ (part x ++ text false xs)

-- the entries that are left
pub record AreLeft {X : Type 0} (s : Entries X) {W : Type 0} (gives : W → List ℕ → W → Type 0) (w : W) (all : List X) (v : W) (is_first : Bool) (rest : List X) : Type 0 where
  pub left : IsLeft gives w (s.text true all) v (s.text is_first rest)
  pub no_higher : s.levels rest ≤ s.levels all
  pub decide : Decide s.members all rest

pub all_left : {X : Type 0} {s : Entries X} {W : Type 0} {gives : W → List ℕ → W → Type 0} {w : W} {rest all : List X} → rest ≡ all
    → AreLeft s gives w all w true rest
all_left e = rw e (record { left = left_all; no_higher = omega arith; decide = all_decide refl })

module _ {X : Type 0} {s : Entries X} {W : Type 0} {gives : W → List ℕ → W → Type 0} {w v : W} {all xs : List X} {is_first : Bool}
    (l : AreLeft s gives w all v is_first xs) where
  -- what is left, its first entry apart
  first_apart : {rest : List X} {x : X} → xs ≡ x ∷ rest
      → IsLeft gives w (s.text true all) v ((s.before is_first ++ s.part x) ++ s.text false rest)
  first_apart {rest} {x} e =
      left_as (ap (s.text is_first) e ∙ s.more_text is_first x rest ∙ sym (append_assoc (s.before is_first) (s.part x) _)) l.left

  pub rest_left : {u : W} {rest : List X} {x : X} → xs ≡ x ∷ rest → Wrote gives v (s.before is_first ++ s.part x) u → s.members.IsFit x
      → AreLeft s gives w all u false rest
  rest_left e wrote f = record {
    left = left_after (first_apart e) wrote;
    no_higher = omega (arith, (within s.highest e).1, l.no_higher);
    decide = rest_decides l.decide e f;
  }

  pub entry_stopped : {E : Type 0} {r : Result (Unit {0}) E} {leaves : W → List ℕ → W → Type 0} {reason : Type 0} {u : W} {rest : List X}
      {x : X} → xs ≡ x ∷ rest → IsErr r → Stopped gives leaves reason v (s.before is_first ++ s.part x) u
      → WritesUnless reason gives leaves w r (s.text true all) u
  entry_stopped {rest = rest} e k stop = writes_err k (left_stopped (first_apart e) (stopped_early (s.text false rest) stop))

  pub none_left : xs ≡ [] → Wrote gives w (s.text true all) v
  none_left e = left_none (left_as (ap (s.text is_first) e ∙ s.none_text is_first) l.left)

  pub own_no_higher : {rest : List X} {x : X} → xs ≡ x ∷ rest → s.own_levels x ≤ s.levels all
  own_no_higher e = omega (arith, (within s.highest e).0, l.no_higher)
