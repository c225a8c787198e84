-- The stream's end is the last token of all.
use Rattle.model_scanner.proofs.Common.{[], insert, List, Reaches, refl, ScannerState, start, suc, sym, Tok, Token, true, zero, ℕ, ◌++◌, ◌∙◌, ◌∷◌, ◌≡◌}
use Rattle.model_scanner.proofs.NoEnds.{IsNoEnd}
use Rattle.model_scanner.proofs.Walk.{Watched, IsKept, Fares, goes, over, fares}

abbrev pub AreNoEnd : List Token → Type 0
AreNoEnd [] = Unit {0}
AreNoEnd (t ∷ ts) = IsNoEnd t.tok × AreNoEnd ts

-- no token but the last is the stream's end
pub record IsLast (ts : List Token) : Type 0 where
  pub before : List Token
  pub last : Token
  pub tokens : ts ≡ before ++ last ∷ []
  pub none : AreNoEnd before

abbrev has_no_end : Watched
has_no_end = record { tokens = λ ts started. AreNoEnd ts; number = λ n. Unit {0}; all = IsLast }

none_more : (ts : List Token) (t : Token) → IsNoEnd t.tok → AreNoEnd ts → AreNoEnd (ts ++ t ∷ [])
none_more [] t p h = (p, tt)
none_more (u ∷ ts) t p h = (h.0, none_more ts t p h.1)

none_inside : (ts : List Token) (n : ℕ) (t : Token) → IsNoEnd t.tok → AreNoEnd ts → AreNoEnd (insert ts n t)
none_inside ts zero t p h = (p, h)
none_inside [] (suc n) t p h = (p, tt)
none_inside (u ∷ ts) (suc n) t p h = (h.0, none_inside ts n t p h.1)

no_end_is_kept : IsKept has_no_end
no_end_is_kept = record {
  pushed = λ ts started t q s. none_more ts t q s;
  inserted = λ ts started n t q l s. none_inside ts n t q s;
  opened = λ ts started s. tt;
  begun = λ ts started s. s;
  closed = λ ts started t s. record { before = ts; last = t; tokens = refl; none = s };
}

begun : (a : List ℕ) → Fares has_no_end (start a).held
begun a = goes (record { stood = record { tokens = tt; keys = tt; going = refl } })

none_at : (given more : List Token) (t : Token) → AreNoEnd (given ++ t ∷ more) → IsNoEnd t.tok
none_at [] more t h = h.0
none_at (x ∷ given) more t h = none_at given more t h.1

-- only the last of these may be the stream's end
last_at : (given more before : List Token) (t last : Token) → given ++ t ∷ more ≡ before ++ last ∷ [] → AreNoEnd before → t.tok ≡ Tok.stream_end → more ≡ []
last_at [] [] before t last e p q = refl
last_at [] (m ∷ more) [] t last e p q = absurd cc
last_at [] (m ∷ more) (b ∷ before) t last e p q = let f : t ≡ b = cc in absurd (rw (← f, q) at p.0)
last_at (x ∷ given) more [] t last e p q = absurd (last_nil given more t (cc))
  where
    last_nil : (given more : List Token) (t : Token) → given ++ t ∷ more ≡ [] → ⊥
    last_nil [] more t e = absurd cc
    last_nil (x ∷ given) more t e = absurd cc
last_at (x ∷ given) more (b ∷ before) t last e p q = last_at given more before t last (cc) p.1 q

-- Of a text's tokens, the stream's end is the last of all.
pub end_is_last : (a : List ℕ) (u : ScannerState) (given more : List Token) (t : Token) → Reaches (start a) u → u.held.tokens ≡ given ++ t ∷ more → t.tok ≡ Tok.stream_end → (u.held.ended ≡ true) × (more ≡ [])
end_is_last a u given more t run e q = by (fares has_no_end no_end_is_kept (start a) u run (begun a))
  where
    by : Fares has_no_end u.held → (u.held.ended ≡ true) × (more ≡ [])
    by (goes s) = absurd (rw q at (none_at given more t (rw e at s.stood.tokens)))
    by (over s) = (s.ended, last_at given more s.all.before t s.all.last (sym e ∙ s.all.tokens) s.all.none q)
