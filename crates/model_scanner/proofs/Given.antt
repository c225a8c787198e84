-- A token that stands before every open key never moves: what was fetched up to it stays the beginning of all tokens.
use Rattle.std.proofs.lemmas.List.Edits.{insert-append_right}
use Rattle.model_scanner.proofs.Common.{[], ap, append_assoc, arith, Held, here, insert, Key, length, length-append, List, Option, Reaches, refl, ScannerState, there, Token, ℕ, ◌++◌, ◌-◌, ◌∙◌, ◌∷◌, ◌≡◌, ◌≤◌}
use Rattle.model_scanner.proofs.Walk as walk
use Rattle.model_scanner.proofs.Walk.{Watched, IsKept, KeysAre, goes, over, fares}

-- every open key stands after so many tokens
abbrev pub KeysFrom : ℕ → List (Option Key) → Type 0
KeysFrom n ks = KeysAre (λ m. n ≤ m) ks

-- the tokens begin with those given
pub record Begins (given ts : List Token) : Type 0 where
  pub more : List Token
  pub tokens : ts ≡ given ++ more

-- and every open key stands after these
pub record Stood (given ts : List Token) (ks : List (Option Key)) : Type 0 where
  pub more : List Token
  pub tokens : ts ≡ given ++ more
  pub keys : KeysFrom (length given) ks

pub record GivenStands (given : List Token) (h : Held) : Type 0 where
  pub stood : Stood given h.tokens h.keys

abbrev begins_given : List Token → Watched
begins_given given = record { tokens = λ ts started. Begins given ts; number = λ n. length given ≤ n; all = Begins given }

more_len : (given more ts : List Token) → ts ≡ given ++ more → length given ≤ length ts
more_len given more ts e = rw (e, length-append given more) (omega arith)

pushed : (given ts : List Token) (t : Token) → Begins given ts → Begins given (ts ++ t ∷ [])
pushed given ts t s = record { more = s.more ++ t ∷ []; tokens = ap (λ x. x ++ t ∷ []) s.tokens ∙ append_assoc given s.more (t ∷ []) }

inserted : (given ts : List Token) (n : ℕ) (t : Token) → length given ≤ n → Begins given ts → Begins given (insert ts n t)
inserted given ts n t l s = record { more = insert s.more (n - length given) t; tokens = ap (λ x. insert x n t) s.tokens ∙ insert-append_right given s.more (length given) n t refl l }

given_is_kept : (given : List Token) → IsKept (begins_given given)
given_is_kept given = record {
  pushed = λ ts started t q s. pushed given ts t s;
  inserted = λ ts started n t q l s. inserted given ts n t l s;
  opened = λ ts started s. more_len given s.more ts s.tokens;
  begun = λ ts started s. s;
  closed = λ ts started t s. pushed given ts t s;
}

-- a run keeps the tokens given
pub reached : (given : List Token) (t u : ScannerState) → Reaches t u → GivenStands given t.held → GivenStands given u.held
reached given t u here s = s
reached given t u (there going e run) s = by (fares (begins_given given) (given_is_kept given) t u (there going e run) (goes (record { stood = record { tokens = record { more = s.stood.more; tokens = s.stood.tokens }; keys = s.stood.keys; going = going } })))
  where
    by : walk.Fares (begins_given given) u.held → GivenStands given u.held
    by (goes s) = record { stood = record { more = s.stood.tokens.more; tokens = s.stood.tokens.tokens; keys = s.stood.keys } }
    by (over s) = record { stood = record { more = s.all.more; tokens = s.all.tokens; keys = s.keys } }
