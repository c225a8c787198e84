-- Anchors by their names, as a layout keeps them, by their numbers, as events have them, and the trees that are read under
-- these numbers.
use Rattle.std.proofs.lemmas.Slice.Eq.{bytes_eq-Decides}
use Rattle.proof_layouts.proofs.Common.{[], add-one, aliased, Anchor, Anchors, arith, begun, Bool, bytes_eq, ended, false, finished, if◌then◌else◌, last_tree, List, Names, nat_eq, nat_tests, ne_eqb, None, number, Option, refl, Some, Tree, true, under_name, with_anchor, with_end, ℕ, ◌+◌, ◌<◌, ◌∙◌, ◌∷◌, ◌≡◌, ◌≢◌, ◌≤◌}

-- The anchors and the numbered names are the same. The numbers fall, the first below `above`; those of the nodes that have begun are
-- `opens`; and what has ended is read under its number.
pub data Agree (read : Anchors) : (above : ℕ) → List Anchor → List (List ℕ × ℕ) → (opens : List ℕ) → Type 0 where
  none : {above : ℕ} → Agree read above [] [] []
  has_begun : {above : ℕ} {a : List Anchor} {names : List (List ℕ × ℕ)} {opens : List ℕ} (name : List ℕ) (k : ℕ) → k < above
      → Agree read k a names opens → Agree read above (begun name ∷ a) ((name, k) ∷ names) (k ∷ opens)
  has_ended : {above : ℕ} {a : List Anchor} {names : List (List ℕ × ℕ)} {opens : List ℕ} (name : List ℕ) (k : ℕ) (t : Tree) → k < above
      → aliased k read ≡ t → Agree read k a names opens → Agree read above (ended name t ∷ a) ((name, k) ∷ names) opens

-- ---- an alias is found

-- The number that stands for the name, and the tree that is read under it.
abbrev pub Found : (name : List ℕ) → List (List ℕ × ℕ) → Anchors → Tree → Type 0
Found name names read t = (k : ℕ) × (under_name name names ≡ Some k) × (aliased k read ≡ t)

-- by the first anchor, or by those after it
found_next : (b : Bool) (name n : List ℕ) (k : ℕ) (names : List (List ℕ × ℕ)) (first rest : Option Tree) (read : Anchors) (t : Tree)
    → bytes_eq name n ≡ b → (first ≡ Some t → aliased k read ≡ t) → (rest ≡ Some t → Found name names read t)
    → (if b then first else rest) ≡ Some t → Found name ((n, k) ∷ names) read t
found_next true name n k names first rest read t same here there e = (k, rw same refl, here e)
found_next false name n k names first rest read t same here there e = rw same (there e)

pub found : {read : Anchors} {above : ℕ} {a : List Anchor} {names : List (List ℕ × ℕ)} {opens : List ℕ} (name : List ℕ) (t : Tree)
    → Agree read above a names opens → last_tree name a ≡ Some t → Found name names read t
found name t Agree.none e = cc
found {read = read} name t (Agree.has_begun {a = a} {names = names} n k less h) e =
    found_next (bytes_eq n name) name n k names None (last_tree name a) read t (grind (arith, bytes_eq-Decides)) (λ d. cc)
    (found name t h) e
found {read = read} name t (Agree.has_ended {a = a} {names = names} n k u less is h) e =
    found_next (bytes_eq n name) name n k names (Some u) (last_tree name a) read t (grind (arith, bytes_eq-Decides))
    (λ d. is ∙ cc) (found name t h) e

-- ---- a node ends

other_number : (m k : ℕ) (t : Tree) (read : Anchors) → m ≢ k → aliased m ((k, t) ∷ read) ≡ aliased m read
other_number m k t read n = rw (ne_eqb m k n) refl

-- the same number
own_number : (k : ℕ) (t : Tree) (read : Anchors) → aliased k ((k, t) ∷ read) ≡ t
own_number k t read = let e : nat_eq k k ≡ true = grind (arith, nat_tests) in rw e refl

-- what is read under a number above does not count
older_agree : {read : Anchors} {above : ℕ} {names : List (List ℕ × ℕ)} {a : List Anchor} {opens : List ℕ} (k : ℕ) (t : Tree)
    → Agree read above a names opens → above ≤ k → Agree ((k, t) ∷ read) above a names opens
older_agree k t Agree.none low = Agree.none
older_agree k t (Agree.has_begun n j less h) low = Agree.has_begun n j less (older_agree k t h (omega arith))
older_agree {read = read} k t (Agree.has_ended n j u less is h) low =
    Agree.has_ended n j u less (other_number j k t read (λ e. omega arith) ∙ is) (older_agree k t h (omega arith))

-- one that has begun has a lower number than those that ended after it
lower : {read : Anchors} {above : ℕ} {names : List (List ℕ × ℕ)} {a : List Anchor} {k : ℕ} {opens : List ℕ}
    → Agree read above a names (k ∷ opens) → k < above
lower (Agree.has_begun n j less h) = less
lower (Agree.has_ended n j u less is h) = let later = lower h in omega arith

now_ended : {read : Anchors} {above : ℕ} {names : List (List ℕ × ℕ)} {a : List Anchor} {k : ℕ} {opens : List ℕ} (t : Tree)
    → Agree read above a names (k ∷ opens) → Agree ((k, t) ∷ read) above (with_end t a) names opens
now_ended {read = read} t (Agree.has_begun n j less h) = Agree.has_ended n j t less (own_number j t read) (older_agree j t h (omega arith))
now_ended {read = read} {k = k} t (Agree.has_ended n j u less is h) =
    let later = lower h in Agree.has_ended n j u less (other_number j k t read (λ e. omega arith) ∙ is) (now_ended t h)

-- ---- what is known at a place of a document where the layout's anchors are a

pub record Known (opens : List ℕ) (a : List Anchor) : Type 0 where
  pub names : Names
  pub read : Anchors
  pub agrees : Agree read (names.count + 1) a names.anchors opens

-- ---- a node with an anchor, or none

abbrev pub begun_by : Option (List ℕ) → List Anchor → List Anchor
begun_by None a = a
begun_by (Some name) a = begun name ∷ a

abbrev pub ended_by : Option (List ℕ) → Tree → List Anchor → List Anchor
ended_by None t a = a
ended_by (Some name) t a = with_end t a

abbrev pub opens_by : Option (List ℕ) → Names → List ℕ → List ℕ
opens_by None s opens = opens
opens_by (Some name) s opens = (s.count + 1) ∷ opens

pub begun_agrees : {opens : List ℕ} {a : List Anchor} (o : Option (List ℕ)) (x : Known opens a)
    → Agree x.read ((with_anchor x.names o).count + 1) (begun_by o a) (with_anchor x.names o).anchors (opens_by o x.names opens)
begun_agrees None x = x.agrees
begun_agrees (Some name) x = Agree.has_begun name (x.names.count + 1) (omega arith) x.agrees

-- the node begins
abbrev pub begin : {opens : List ℕ} {a : List Anchor} (o : Option (List ℕ)) (x : Known opens a)
    → Known (opens_by o x.names opens) (begun_by o a)
begin o x = record { names = with_anchor x.names o; read = x.read; agrees = begun_agrees o x }

finished_next : (n : ℕ) (t : Tree) (read : Anchors) → finished (n + 1) t read ≡ (n + 1, t) ∷ read
finished_next n t read = rw add-one refl

pub ended_agrees : {opens : List ℕ} {b : List Anchor} (o : Option (List ℕ)) (s : Names) (t : Tree) (y : Known (opens_by o s opens) b)
    → Agree (finished (number s o) t y.read) (y.names.count + 1) (ended_by o t b) y.names.anchors opens
ended_agrees None s t y = y.agrees
ended_agrees (Some name) s t y = rw (finished_next s.count t y.read) (now_ended t y.agrees)

-- the node ends, which began at the names s
abbrev pub finish : {opens : List ℕ} {b : List Anchor} (o : Option (List ℕ)) (s : Names) (t : Tree)
    → Known (opens_by o s opens) b → Known opens (ended_by o t b)
finish o s t y = record { names = y.names; read = finished (number s o) t y.read; agrees = ended_agrees o s t y }
