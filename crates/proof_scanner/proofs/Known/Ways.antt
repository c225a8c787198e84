-- Two ways through one text: each beginning of a row goes through the place of the other, or the other goes on past its own. A way may give up a key that waits.
use Rattle.proof_scanner.proofs.Common.{[], Account, account_past, account_step, ap, Begins, BeginsButForKey, Bool, Entry, first_account, free, has_no_nul, is_in_column, IsLike, IsWritten, Leads, LikeEntries, List, no_nul_after, None, Option, Position, refl, same_written, Some, spelled, Step, Stepped, subst, sym, taken, true, up_to_nul, waits, ℕ, ◌++◌, ◌∙◌, ◌∷◌, ◌≡◌, arith, nat_tests, eqb-true}
use Rattle.defs_token.specs.Piece.{Holds}

-- ---- accounts that are alike

entries_sym : (ds es : List Entry) → LikeEntries ds es → LikeEntries es ds
entries_sym (d ∷ ds) (e ∷ es) i = ((sym i.0.0, sym i.0.1, grind arith), entries_sym ds es i.1)
entries_sym ds es i = grind arith

pub like_sym : (a b : Account) → IsLike a b → IsLike b a
like_sym a b i = (sym i.0, grind arith, entries_sym a.entries b.entries i.2)

-- a key is given up, or none
pub data GivesUp (a x : Account) : Type 0 where
  stays : a ≡ x → GivesUp a x
  given_up : (begin : Position) → a.line ≡ waits begin → is_in_column begin.col a.site.blocks ≡ true → record { site = a.site; line = taken; entries = a.entries } ≡ x → GivesUp a x

pub gives_up_like : (a x b : Account) → GivesUp a x → IsLike a b → IsLike x b
gives_up_like a x b d i = grind (arith, waits, taken, free)

-- ---- ways

-- Steps that lead from an account to another, where before each step, and at the end, the account may change so.
abbrev pub LeadsBy : (J : Account → Account → Type 0) → Option Account → List Step → (after : List ℕ) → Account → Type 0
LeadsBy J None ws after b = ⊥
LeadsBy J (Some a) [] after b = J a b
LeadsBy J (Some a) (w ∷ ws) after b = (x : Account) × J a x × IsWritten x w (spelled ws after) × LeadsBy J (account_past x w (spelled ws after)) ws after b

abbrev pub Same : Account → Account → Type 0
Same a b = a ≡ b

pub strictly : (ws : List Step) (after : List ℕ) (o : Option Account) (b : Account) → Leads o ws after b → LeadsBy Same o ws after b
strictly (w ∷ ws) after (Some a) b h = (a, refl, h.0, strictly ws after (account_past a w (spelled ws after)) b h.1)
strictly ws after o b h = grind arith

pub loosely : (ws : List Step) (after : List ℕ) (o : Option Account) (b : Account) → Leads o ws after b → LeadsBy GivesUp o ws after b
loosely ws after None b h = absurd h
loosely [] after (Some a) b h = stays h
loosely (w ∷ ws) after (Some a) b h = (a, stays refl, h.0, loosely ws after (account_past a w (spelled ws after)) b h.1)

pub spelled_append : (vs ws : List Step) (after : List ℕ) → spelled (vs ++ ws) after ≡ spelled vs (spelled ws after)
spelled_append [] ws after = refl
spelled_append (v ∷ vs) ws after = ap (λ r. v.separation ++ (v.piece ++ r)) (spelled_append vs ws after)

-- steps that lead to a key that is given up, and those from there
given_up_on : (vs ws : List Step) (after : List ℕ) (o : Option Account) (a b : Account) (begin : Position) → Leads o vs (spelled ws after) a → a.line ≡ waits begin → is_in_column begin.col a.site.blocks ≡ true → Leads (Some (record { site = a.site; line = taken; entries = a.entries })) ws after b →
    LeadsBy GivesUp o (vs ++ ws) after b
given_up_on vs ws after None a b begin h waiting must k = absurd h
given_up_on [] [] after (Some x) a b begin h waiting must k = rw h (given_up begin waiting must k)
given_up_on [] (w ∷ ws) after (Some x) a b begin h waiting must k =
    let y : Account = record { site = a.site; line = taken; entries = a.entries } in
    rw h (y, given_up begin waiting must refl, k.0, loosely ws after (account_past y w (spelled ws after)) b k.1)
given_up_on (v ∷ vs) ws after (Some x) a b begin h waiting must k = (
  x,
  stays refl,
  rw (spelled_append vs ws after) h.0,
  rw (spelled_append vs ws after) (given_up_on vs ws after (account_past x v (spelled vs (spelled ws after))) a b begin h.1 waiting must k),
)

-- A way to an account, before the rest of the text.
pub record Way (J : Account → Account → Type 0) (text after : List ℕ) (a : Account) : Type 0 where
  pub steps : List Step
  pub spells : spelled steps after ≡ up_to_nul text
  pub leads : LeadsBy J (Some first_account) steps after a

pub way_of : (text after : List ℕ) (a : Account) → Begins text after a → Way GivesUp text after a
way_of text after a g = record { steps = g.steps; spells = g.spells; leads = loosely g.steps after (Some first_account) a g.leads }

pub strict_way : (text after : List ℕ) (a : Account) → Begins text after a → Way Same text after a
strict_way text after a g = record { steps = g.steps; spells = g.spells; leads = strictly g.steps after (Some first_account) a g.leads }

pub way_but_for_key : (text after : List ℕ) (begin : Position) (b : Account) → BeginsButForKey text after begin b → Way GivesUp text after b
way_but_for_key text after begin b g =
    search (spelled_append g.begins.steps g.steps after ∙ g.begins.spells, given_up_on g.begins.steps g.steps after (Some first_account) g.account b begin g.begins.leads g.line_is g.must_be g.leads)

-- ---- two ways

-- a step with another choice
abbrev pub With : Step → (key : Bool) → Step
With w key = record { separation = w.separation; piece = w.piece; shown = w.shown; key = key }

-- A way goes on past a place that the other one leads to: from an account that is like the other's, by a step.
pub record GoesOn (J : Account → Account → Type 0) (R : Account → Account → List ℕ → Type 0) (a b : Account) (here after : List ℕ) : Type 0 where
  pub account : Account
  pub is_like : IsLike a account
  pub holds : R a account here
  pub step : Step
  pub steps : List Step
  pub past : Account
  pub is_written : IsWritten account step (spelled steps after)
  pub is_past : account_past account step (spelled steps after) ≡ Some past
  pub leads : LeadsBy J (Some past) steps after b
  pub spells : spelled (step ∷ steps) after ≡ here

-- Of two ways through a text both lead to one place, or one goes on past the other's.
pub data Meet (J K : Account → Account → Type 0) (R : Account → Account → List ℕ → Type 0) (a b : Account) (after1 after2 : List ℕ) : Type 0 where
  same_place : IsLike a b → R a b after1 → after1 ≡ after2 → Meet J K R a b after1 after2
  second_on : GoesOn K R a b after1 after2 → Meet J K R a b after1 after2
  first_on : GoesOn J (λ x y. R y x) b a after2 after1 → Meet J K R a b after1 after2

pub moved : (w v : Step) → w.separation ≡ v.separation → w.piece ≡ v.piece → w.shown ≡ v.shown → w ≡ With v w.key
moved w v f p t = grind arith

-- what is kept by each step that two ways make
abbrev pub Keeps : (R : Account → Account → List ℕ → Type 0) → Type 0
Keeps R =
    (x y a b : Account) (v : Step) (c : Bool) (next : List ℕ) → IsLike x y → R x y (v.separation ++ (v.piece ++ next)) → IsWritten x v next → IsWritten y (With v c) next → account_past x v next ≡ Some a → account_past y (With v c) next ≡ Some b → R a b next

-- What is kept along two ways: where an account changes, and by each step that both make.
pub record KeepsOn (J K : Account → Account → Type 0) (R : Account → Account → List ℕ → Type 0) : Type 0 where
  pub first : (x y z : Account) (after : List ℕ) → J x z → IsLike x y × R x y after → IsLike z y × R z y after
  pub second : (x y z : Account) (after : List ℕ) → K y z → IsLike x y × R x y after → IsLike x z × R x z after
  pub both : Keeps R

-- steps lead on from an account
pub leads_on : (J : Account → Account → Type 0) (o : Option Account) (ws : List Step) (after : List ℕ) (b : Account) → LeadsBy J o ws after b → (c : Account) × (o ≡ Some c) × LeadsBy J (Some c) ws after b
leads_on a d ws after b h = grind (arith, nat_tests, eqb-true)

module _ (J K : Account → Account → Type 0) (R : Account → Account → List ℕ → Type 0) (keeps : KeepsOn J K R) where
  pub meet : (vs ws : List Step) (after1 after2 : List ℕ) (x y a b : Account) → IsLike x y → R x y (spelled vs after1) → LeadsBy J (Some x) vs after1 a → LeadsBy K (Some y) ws after2 b → spelled vs after1 ≡ spelled ws after2 → Holds (has_no_nul (spelled vs after1)) → Meet J K R a b after1 after2
  meet [] [] after1 after2 x y a b i r h k e c = let l = keeps.second a y b after1 k (keeps.first x y a after1 h (i, r)) in same_place l.0 l.1 e
  meet [] (w ∷ ws) after1 after2 x y a b i r h k e c =
      let l = keeps.second a y k.0 after1 k.1 (keeps.first x y a after1 h (i, r)) in
      let n = leads_on K (account_past k.0 w (spelled ws after2)) ws after2 b k.3 in
      second_on (record { account = k.0; is_like = l.0; holds = l.1; step = w; steps = ws; past = n.0; is_written = k.2; is_past = n.1; leads = n.2; spells = sym e })
  meet (v ∷ vs) [] after1 after2 x y a b i r h k e c =
      let l = keeps.second h.0 y b (spelled (v ∷ vs) after1) k (keeps.first x y h.0 (spelled (v ∷ vs) after1) h.1 (i, r)) in
      let n = leads_on J (account_past h.0 v (spelled vs after1)) vs after1 a h.3 in
      first_on (record { account = h.0; is_like = like_sym h.0 b l.0; holds = rw (sym e) l.1; step = v; steps = vs; past = n.0; is_written = h.2; is_past = n.1; leads = n.2; spells = e })
  meet (v ∷ vs) (w ∷ ws) after1 after2 x y a b i r h k e c =
      let n : List ℕ = spelled vs after1 in
      let m : List ℕ = spelled ws after2 in
      let l = keeps.second h.0 y k.0 (spelled (v ∷ vs) after1) k.1 (keeps.first x y h.0 (spelled (v ∷ vs) after1) h.1 (i, r)) in
      let same : (v.separation ≡ w.separation) × (v.piece ≡ w.piece) × (v.shown ≡ w.shown) × (n ≡ m) = same_written h.0 k.0 v w n m l.0 h.2 k.2 e c in
      let moves : w ≡ With v w.key = moved w v (sym same.0) (sym same.1) (sym same.2) in
      let g = leads_on J (account_past h.0 v n) vs after1 a h.3 in
      let f = leads_on K (account_past k.0 w m) ws after2 b k.3 in
      let stepped : Stepped IsLike ((h.0 ≡ k.0) × (v ≡ w)) (Some g.0) (Some f.0) = rw (g.1, f.1) at (account_step h.0 k.0 v w n m l.0 same.0 same.1 same.2 same.3) in
      meet vs ws after1 after2 g.0 f.0 a b stepped.0
      (keeps.both h.0 k.0 g.0 f.0 v w.key n l.0 l.1 h.2 (rw same.3 (subst (λ z. IsWritten k.0 z m) moves k.2)) g.1 (rw same.3 (subst (λ z. account_past k.0 z m ≡ Some f.0) moves f.1)))
      g.2 f.2 same.3 (no_nul_after v.piece n (no_nul_after v.separation (v.piece ++ n) c))
