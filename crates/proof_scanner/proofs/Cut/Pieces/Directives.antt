-- What the scan of a directive reads is its piece.
use Rattle.proof_scanner.proofs.Common.{ap, Directive, DirectiveIsRead, directives_end, drop, false, first_break, is_before_line_feed, is_break, is_directive_token, is_separation, IsDirective, IsPiece, List, Option, position_append, read_as, ReadAs, subst, take, Tok, token_of, true, whole_directive, ℕ, ◌++◌, ◌∙◌, ◌∷◌, ◌≡◌, arith, nat_tests, eqb-true}
use Rattle.defs_token.specs.Account.{Account}
use Rattle.proof_lexers.specs.DirectiveEnds.{ends_line, next_line}

-- ---- the break after a directive

pub break_cut : (next : List ℕ) → next ≡ first_break next ++ next_line next
break_cut next = grind arith

pub break_is_separation : (next : List ℕ) → ends_line next ≡ true → is_separation false (first_break next) (next_line next) ≡ true
unfolding is_break
break_is_separation a h = grind (arith, nat_tests, eqb-true, is_before_line_feed, take, drop)

-- ---- the piece

pub piece_of : (a : Account) (piece next : List ℕ) (d : Directive) (following : Option Tok) → IsDirective a piece next d → IsPiece a piece next following a.position (token_of d)
piece_of a piece b e following h = grind arith

-- a directive that was read is the piece of its token, and after it the break of its line was passed
pub directive_is_read : DirectiveIsRead
unfolding is_break
directive_is_read a more r nul column closed e = elim (read_as e (directives_end more a.position)) as (λ x w. ReadAs a (37 ∷ more) x.value a.position x.rest x.position × (is_directive_token x.value ≡ true)) [
  | whole_directive line next d cut no_break ends is ↦
      let whole : 37 ∷ more ≡ (37 ∷ line) ++ (first_break next ++ next_line next) = ap (λ l. 37 ∷ l) (cut ∙ ap (λ l. line ++ l) (break_cut next)) in
      let piece : (following : Option Tok) → IsPiece a (37 ∷ line) (first_break next ++ next_line next) following a.position (token_of d) =
      λ following. subst (λ l. IsPiece a (37 ∷ line) l following a.position (token_of d)) (break_cut next) (piece_of a (37 ∷ line) next d following (is, no_break, column, grind arith, closed)) in
      (search (whole, break_is_separation next ends, piece, position_append a.position (37 ∷ line) (first_break next) (next_line next)), (grind arith))
]
