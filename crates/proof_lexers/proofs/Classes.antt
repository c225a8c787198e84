-- Characters of a class at a text's start, and what the model takes of them.
use Rattle.std.proofs.Common.{[], append-nil, append_assoc, arith, Bool, false, length, List, refl, suc, sym, true, ℕ, ◌++◌, ◌+◌, ◌∷◌, ◌≡◌}
use Rattle.defs_text.specs.Tags.{after, all_of, leading}
use Rattle.proof_lexers.specs.NameEnds.{further}
use Rattle.model_scanner.specs.Machine.{past, skip_while, take_while}
use Rattle.defs_text.specs.Position.{Position}
use Rattle.proof_row.proofs.Texts as texts

-- ---- positions

pub same_place : (p : Position) (n : ℕ) {i j : ℕ} → i ≡ p.index + n → j ≡ p.col + n → record { index = i; line = p.line; col = j } ≡ further n p
same_place p n e f = rw (e, f) refl

pub one_further : (p : Position) (n : ℕ) → further n (past p) ≡ further (suc n) p
one_further p n = same_place p (suc n) (omega arith) (omega arith)

pub none_further : (p : Position) → further 0 p ≡ p
none_further p = let index : p.index + 0 ≡ p.index = omega arith in let col : p.col + 0 ≡ p.col = omega arith in rw (index, col) refl

-- ---- texts

abbrev pub begins_in : (ℕ → Bool) → List ℕ → Bool
begins_in class [] = false
begins_in class (c ∷ r) = class c

module _ (class : ℕ → Bool) where
  pub span_cut : (a : List ℕ) → a ≡ leading class a ++ after class a
  span_cut a = sym (texts.leading_after class a)

  pub all_leading : (a : List ℕ) → all_of class (leading class a) ≡ true
  all_leading a = texts.all_leading class a

  pub ends_after : (a : List ℕ) → begins_in class (after class a) ≡ false
  ends_after [] = refl
  ends_after (c ∷ a) = grind (arith, ends_after a)

  -- what a text begins with, and what stands after that, before a text that does not go on with the class
  pub before_end : (l n : List ℕ) → begins_in class n ≡ false → (leading class (l ++ n) ≡ leading class l) × (after class (l ++ n) ≡ after class l ++ n)
  before_end [] n h = grind arith
  before_end (c ∷ l) n h = grind (arith, before_end l n h)

  pub leading_none : (r : List ℕ) → begins_in class r ≡ false → (leading class r ≡ []) × (after class r ≡ r)
  leading_none r h = before_end [] r h

  pub leading_all : (l r : List ℕ) → all_of class l ≡ true → begins_in class r ≡ false → (leading class (l ++ r) ≡ l) × (after class (l ++ r) ≡ r)
  leading_all [] r h e = leading_none r e
  leading_all (c ∷ l) r h e = grind (arith, leading_all l r)

  -- ---- the model

  module _ (test : ℕ → Bool) (same : (c : ℕ) → class c ≡ test c) where
    pub taken : (a : List ℕ) (p : Position) (t : List ℕ) → take_while test a p t ≡ record { rest = after class a; position = further (length (leading class a)) p; value = t ++ leading class a }
    taken [] p t = rw (none_further p, append-nil) refl
    taken (c ∷ a) p t = grind (arith, past, one_further, none_further, append-nil, append_assoc, taken a (past p) (t ++ c ∷ []))

    pub skipped : (a : List ℕ) (p : Position) → skip_while test a p ≡ record { rest = after class a; position = further (length (leading class a)) p; value = tt }
    skipped [] p = grind (arith, none_further)
    skipped (c ∷ a) p = grind (arith, past, after, one_further, none_further, skipped a (past p))
