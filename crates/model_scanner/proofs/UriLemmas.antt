-- Lemmas about the scan of a URI's characters.
use Rattle.model_scanner.proofs.Common.{[], arith, At, Bool, digit_value, Err, false, is_hex, List, Ok, past, Position, refl, slice_index, true, ℕ, ◌*◌, ◌+◌, ◌==◌, ◌∷◌, ◌≡◌}
use Rattle.yaml_tokens.specs.declared.problem.Problem.TheVariants as problem
use Rattle.model_scanner.specs.Uri.{Octet, lead, plain, percent, high, low, uri_from, octet_from}

module _ (test : ℕ → Bool) (start : Position) where
  -- where no character of the kind stands
  pub uri_end : (c : ℕ) (a : List ℕ) (p : Position) (t : List ℕ) → c ≡ slice_index a 0 → test c ≡ false
      → uri_from test start a (record { mode = plain; position = p; text = t }) ≡ Ok (record { rest = a; position = p; value = t })
  uri_end c [] p t e h = refl
  uri_end c (d ∷ a) p t e h = let g : test d ≡ false = rw e at h in rw g refl

  -- where an octet ends too early
  pub percent_fails : (o : Octet) (c : ℕ) (a : List ℕ) (p : Position) (t : List ℕ) → c ≡ slice_index a 0 → (c == 37) ≡ false
      → uri_from test start a (record { mode = percent o; position = p; text = t }) ≡ Err (At problem.TagOctet start)
  percent_fails o c [] p t e h = refl
  percent_fails o c (d ∷ a) p t e h = let g : (d == 37) ≡ false = rw e at h in rw g refl

  pub high_fails : (o : Octet) (c : ℕ) (a : List ℕ) (p : Position) (t : List ℕ) → c ≡ slice_index a 0 → is_hex c ≡ false
      → uri_from test start a (record { mode = high o; position = p; text = t }) ≡ Err (At problem.TagOctet start)
  high_fails o c [] p t e h = refl
  high_fails o c (d ∷ a) p t e h = let g : is_hex d ≡ false = rw e at h in rw g refl

  pub low_fails : (o : Octet) (v c : ℕ) (a : List ℕ) (p : Position) (t : List ℕ) → c ≡ slice_index a 0 → is_hex c ≡ false
      → uri_from test start a (record { mode = low o v; position = p; text = t }) ≡ Err (At problem.TagOctet start)
  low_fails o v c [] p t e h = refl
  low_fails o v c (d ∷ a) p t e h = let g : is_hex d ≡ false = rw e at h in rw g refl

  -- after the last digit of an octet
  pub low_turn : (o : Octet) (v c : ℕ) (a b : List ℕ) (p : Position) (t : List ℕ) → is_hex c ≡ true → a ≡ c ∷ b
      → uri_from test start a (record { mode = low o v; position = p; text = t }) ≡ octet_from test start o (v * 16 + digit_value c) b (past p) t
  low_turn o v c a b p t h e = grind arith

  -- a `%` begins an octet
  pub percent_lead : (a : List ℕ) (p : Position) (t : List ℕ) → 37 ≡ slice_index a 0 → test 37 ≡ true
      → uri_from test start a (record { mode = plain; position = p; text = t }) ≡ uri_from test start a (record { mode = percent lead; position = p; text = t })
  percent_lead [] p t e h = cc
  percent_lead (d ∷ a) p t e h = rw (← e, h) refl
