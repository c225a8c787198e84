-- A character of a line in quotes is read as it is written: as itself, as two single quotes, or by an escape of one letter.
use Rattle.proof_lexers.proofs.Common.{[], along, append-nil, arith, Bool, Char, Context, escape_of, false, Fault, Folded, gap, inside, is_blank, is_break, le-ltb, List, ne_eqb, not, Position, quote_of, quoted_from, QuotedState, Read, refl, Result, true, ℕ, ◌&&◌, ◌++◌, ◌+◌, ◌==◌, ◌||◌, ◌∙◌, ◌∷◌, ◌≡◌, ◌≤◌, nat_lt}
use Rattle.proof_lexers.proofs.Quoted.Turns.{may_stand, inside_is_gap}
use Rattle.proof_lexers.proofs.Along.{along_more}

-- where the text of a line may stand
abbrev pub IsIn : Context → Position → Type 0
IsIn ctx p = (1 ≤ p.col) × (ctx.indent ≤ p.col + 1)

pub moves : (ctx : Context) (w : List ℕ) (p : Position) → IsIn ctx p → IsIn ctx (along w p)
moves ctx w p h = let k = h.0 in let l = h.1 in let m = along_more w p in (omega (arith, k, m), omega (arith, l, m))

module _ (single : Bool) (ctx : Context) (start : Position) where
  tests : (p : Position) → IsIn ctx p → ((p.col == 0) ≡ false) × (nat_lt (p.col + 1) ctx.indent ≡ false)
  tests p h = let k = h.0 in let l = h.1 in (ne_eqb p.col 0 (λ e. omega (arith, k)), le-ltb (p.col + 1) ctx.indent (omega (arith, l)))

  abbrev pub folded : List ℕ → List ℕ → Folded
  folded text blanks = record { text = text; gap = blanks; leading = false; escaped = false }

  -- in a line, after blanks or none
  abbrev pub at : Position → List ℕ → List ℕ → QuotedState
  at p text blanks = record { mode = gap; position = p; folded = folded text blanks }

  abbrev within : Position → List ℕ → QuotedState
  within p text = record { mode = inside; position = p; folded = folded text [] }

  abbrev pub scan : List ℕ → QuotedState → Result (Read (List ℕ)) Fault
  scan a s = quoted_from single ctx start a s

  -- what is no blank is read as within the line
  joins : (c : ℕ) (a : List ℕ) (p : Position) (text blanks : List ℕ) → (is_break c || is_blank c) ≡ false → IsIn ctx p → scan (c ∷ a) (at p text blanks) ≡ scan (c ∷ a) (within p (text ++ blanks))
  joins c a p text blanks e h = rw (e, may_stand single ctx start (c ∷ a) p (tests p h).0 (tests p h).1) refl

  -- A character was read, that was written so.
  pub record Went (w a text blanks : List ℕ) (p : Position) (c : ℕ) : Type 0 where
    pub text_now : List ℕ
    pub blanks_now : List ℕ
    pub told : text_now ++ blanks_now ≡ (text ++ blanks) ++ c ∷ []
    pub now : scan (w ++ a) (at p text blanks) ≡ scan a (at (along w p) text_now blanks_now)

  -- The written text is read as the character, wherever it may stand.
  abbrev pub IsWritten : (w : List ℕ) → (c : ℕ) → Type 0
  IsWritten w c = (a text blanks : List ℕ) (p : Position) → IsIn ctx p → Went w a text blanks p c

  went : (w a text blanks : List ℕ) (p : Position) (c : ℕ) → IsIn ctx p → scan (w ++ a) (at p text blanks) ≡ scan a (within (along w p) ((text ++ blanks) ++ c ∷ [])) → Went w a text blanks p c
  went w a text blanks p c h e = record {
    text_now = (text ++ blanks) ++ c ∷ [];
    blanks_now = [];
    told = append-nil _;
    now = let q = tests (along w p) (moves ctx w p h) in e ∙ inside_is_gap single ctx start a (along w p) ((text ++ blanks) ++ c ∷ []) q.0 q.1;
  }

  pub char_goes : (c : ℕ) → (is_break c || is_blank c) ≡ false → ((c == 92) && not single) ≡ false → (c == quote_of single) ≡ false → IsWritten (c ∷ []) c
  char_goes c e f g a text blanks p h = went (c ∷ []) a text blanks p c h (joins c a p text blanks e h ∙ rw (e, f, g) refl)

-- two single quotes are one
pub quote_goes : (ctx : Context) (start : Position) → IsWritten true ctx start (39 ∷ 39 ∷ []) 39
unfolding is_break is_blank
quote_goes ctx start a text blanks p h = went true ctx start (39 ∷ 39 ∷ []) a text blanks p 39 h (joins true ctx start 39 (39 ∷ a) p text blanks refl h)

-- ---- escapes

module _ (ctx : Context) (start : Position) where
  -- an escape of one letter
  pub named_goes : (l c : ℕ) → is_break l ≡ false → escape_of l ≡ Char c → IsWritten false ctx start (92 ∷ l ∷ []) c
  unfolding is_break is_blank
  named_goes l c e f a text blanks p h = went false ctx start (92 ∷ l ∷ []) a text blanks p c h ((joins false ctx start 92 (l ∷ a) p text blanks refl h) ∙ rw (e, f) refl)
