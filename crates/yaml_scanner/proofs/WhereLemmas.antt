-- Where the scanner stands in a text, and whether it met the stream's start.
use Rattle.yaml_scanner.proofs.Common.{[], Reaches, ScannerState, seen, start, ap, arith, Bool, drop, false, Fetcher, first_position, FollowsIn, handed, has_no_nul, is_empty, length, length-take, List, next_line, None, position_after, position_of, refl, state, sym, take, Token, true, waiting, ℕ, ◌+◌, ◌-◌, ◌<◌, ◌∙◌, ◌∷◌, ◌≡◌}
use Rattle.std.proofs.Math.Seq.{take-nil}
use Rattle.proof_scanner.specs.Positions.{IsPositionIn}
use Rattle.proof_scanner.proofs.Sound.FirstTokens.{run_is_where}

some_of : (n : ℕ) (xs : List Token) → is_empty xs ≡ false → 0 < length (take n xs) + (length xs - n)
some_of n [] e = absurd cc
some_of n (x ∷ xs) e = rw (length-take n (x ∷ xs)) (omega arith)

-- a state where a run has what the scanner holds
pub record Standing {T : Type 0} (x : Fetcher T) (a : List ℕ) : Type 0 where
  pub last : ScannerState
  pub run : Reaches (start a) last
  pub tokens : last.held.tokens ≡ x.tokens.all
  pub started : last.held.started ≡ x.started
  pub ended : last.held.ended ≡ x.tokens.ended
  pub keys : x.tokens.ended ≡ false → last.held.keys ≡ seen x.tokens.given x.keys

module _ {T : Type 0} (x : Fetcher T) (a : List ℕ) (old : FollowsIn a x) (kept : x.kept ≡ None) where
  pub standing : Standing x a
  standing = by x.tokens.ended refl
    where
      by : (b : Bool) → x.tokens.ended ≡ b → Standing x a
      by true e =
          let z = old.all kept e in
          record { last = z.whole.end; run = z.whole.run; tokens = z.whole.tokens; started = z.began; ended = z.whole.ended ∙ sym e; keys = λ g. absurd (cc (g, e)) }
      by false e = record { last = state (drop x.window.at a) x; run = old.run kept e; tokens = refl; started = refl; ended = refl; keys = λ _. refl }

module _ {T : Type 0} (x : Fetcher T) (a : List ℕ) (old : FollowsIn a x) (kept : x.kept ≡ None) (nul : has_no_nul a ≡ true) where
  pub in_text : x.tokens.ended ≡ false → IsPositionIn a (drop x.window.at a) (position_of x.window)
  in_text e = (run_is_where a (state (drop x.window.at a) x) nul (old.run kept e)).going e

  pub at_end : x.tokens.ended ≡ true → position_of x.window ≡ next_line (position_after first_position a [])
  at_end e = let z = old.all kept e in sym z.position ∙ (run_is_where a z.whole.end nul z.whole.run).over z.whole.ended

  pub not_started : x.started ≡ false → (handed x.tokens ≡ []) × (waiting x.tokens ≡ 0)
  not_started n =
      let z = standing x a old kept in
      let none : x.tokens.all ≡ [] = sym z.tokens ∙ (run_is_where a z.last nul z.run).none (z.started ∙ n) in
      rw none (take-nil x.tokens.given, omega arith)

  pub has_started : x.started ≡ true → 0 < length (handed x.tokens) + waiting x.tokens
  has_started s = let z = standing x a old kept in some_of x.tokens.given x.tokens.all (ap is_empty (sym z.tokens) ∙ (run_is_where a z.last nul z.run).some (z.started ∙ s))
