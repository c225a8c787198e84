-- Texts without NUL.
use Rattle.proof_loads.proofs.Common.{[], and_parts, ap, body_value, Bool, false, is_line_character, is_nul, IsLineText, List, list_all, ne_eqb, not-true, parts, quote_of, Quotes, refl, Some, spaces, suc, true, up_to_nul, zero, ℕ, ◌++◌, ◌==◌, ◌∷◌, ◌≡◌, list_all-append}
use Rattle.proof_lexers.specs.QuotedScan.{is_some}
use Rattle.proof_lexers.proofs.Quoted.NoNul.{has_none}

abbrev pub HasNone : List ℕ → Type 0
HasNone a = list_all is_some a ≡ true

-- it goes on to its end
pub whole : (a : List ℕ) → HasNone a → up_to_nul a ≡ a
unfolding is_nul
whole [] h = refl
whole (c ∷ a) h = let q = and_parts (is_some c) (list_all is_some a) h in rw (not-true (c == 0) q.0) (ap (λ l. c ∷ l) (whole a q.1))

pub both : (a b : List ℕ) → HasNone a → HasNone b → HasNone (a ++ b)
both a b h e = rw (list_all-append, h) e

-- characters of a class without NUL
pub of_class : (is_one : ℕ → Bool) → is_one 0 ≡ false → (w : List ℕ) → list_all is_one w ≡ true → HasNone w
of_class is_one none [] h = refl
of_class is_one none (c ∷ w) h = let q = and_parts (is_one c) (list_all is_one w) h in rw (ne_eqb c 0 (λ e. cc (none, ap is_one e, q.0))) (of_class is_one none w q.1)

pub text_none : (text : List ℕ) → IsLineText text → HasNone text
unfolding is_line_character
text_none text h = of_class is_line_character refl text h

pub spaces_none : (n : ℕ) (a : List ℕ) → HasNone a → HasNone (spaces n a)
spaces_none zero a h = h
spaces_none (suc n) a h = spaces_none n a h

-- a body in quotes that has a value
pub quoted_none : (quotes : Quotes) (body value : List ℕ) → body_value quotes body ≡ Some value → HasNone (quote_of quotes ∷ (body ++ quote_of quotes ∷ []))
quoted_none Quotes.single body value h = let z = parts true body value h in both body (39 ∷ []) (has_none true 0 body z.all z.are) refl
quoted_none Quotes.double body value h = let z = parts false body value h in both body (34 ∷ []) (has_none false 0 body z.all z.are) refl
