-- What the scan of a quoted scalar reads is its piece.
use Rattle.proof_scanner.proofs.Common.{◌-◌, [], and_parts, ap, append_assoc, are_single, begins_with, Bool, ends_before, has_no_nul, is_some, IsPiece, IsQuotedRead, List, list_all, not, Option, Position, position_after, quote_of, quoted, quoted_style, QuotedIsRead, Quotes, read_as, refl, scalar, Some, sym, Tok, true, value_of, ℕ, ◌++◌, ◌==◌, ◌∙◌, ◌∷◌, ◌≡◌, arith, nat_tests, eqb-true, Context, element_of, quoted_lines_fit, Read, Ok}
use Rattle.defs_text.specs.Classes as classes
use Rattle.proof_lexers.proofs.Quoted.ScanEnds.{scans_end}
use Rattle.proof_scanner.proofs.Sound.QuotedBreaks.{same_limit}
use Rattle.proof_scanner.proofs.Refusals.QuotedLines.{body_read}

-- ---- the piece

pub some_chars : (text : List ℕ) → has_no_nul text ≡ true → list_all is_some text ≡ true
unfolding classes.is_nul
some_chars [] h = refl
some_chars (c ∷ r) h = let q = and_parts (not (c == 0)) (has_no_nul r) h in rw q.0 (some_chars r q.1)

abbrev pub piece_of : (single : Bool) → (body : List ℕ) → List ℕ
piece_of single body = quote_of single ∷ (body ++ quote_of single ∷ [])

-- What the scan of a quoted scalar read at a position: the text between its quotes; its further lines are indented.
pub record QuotedAs (single : Bool) (ctx : Context) (p : Position) (text : List ℕ) (x : Read (List ℕ)) : Type 0 where
  pub body : List ℕ
  pub value_is : value_of single body ≡ Some x.value
  pub ends : ends_before single x.rest ≡ true
  pub cut : text ≡ piece_of single body ++ x.rest
  pub end_is : x.position ≡ position_after p (piece_of single body) x.rest
  pub fits : quoted_lines_fit (ctx.indent - 1) (element_of single) (piece_of single body) ≡ true

pub quoted_as : (quotes : Quotes) (ctx : Context) (p : Position) (more : List ℕ) (x : Read (List ℕ)) → has_no_nul more ≡ true → quoted (are_single quotes) ctx (quote_of (are_single quotes) ∷ more) p ≡ Ok x → QuotedAs (are_single quotes) ctx p (quote_of (are_single quotes) ∷ more) x
quoted_as quotes ctx p more x none e =
    let q : IsQuotedRead (are_single quotes) more x = read_as e (scans_end (are_single quotes) ctx more p (some_chars more none)) in
    let there = body_read (are_single quotes) ctx p (ctx.indent - 1) (λ k. same_limit k ctx.indent) q.body x (rw (sym q.is_text) (some_chars more none))
    (ap (λ l. quoted (are_single quotes) ctx (quote_of (are_single quotes) ∷ l) p) (sym q.is_text) ∙ e) in
    let all : quote_of (are_single quotes) ∷ more ≡ piece_of (are_single quotes) q.body ++ x.rest = ap (λ l. quote_of (are_single quotes) ∷ l) q.is_text ∙ (ap (λ l. (quote_of (are_single quotes)) ∷ l) (sym (append_assoc q.body ((quote_of (are_single quotes)) ∷ []) x.rest))) in
    search (q.is_value, q.may_end, all, there.end_is, there.lines)

-- a quoted scalar that was read is the piece of its token
pub quoted_is_read : QuotedIsRead
quoted_is_read a quotes ctx more r nul e =
    let q : QuotedAs (are_single quotes) ctx a.position (quote_of (are_single quotes) ∷ more) r = quoted_as quotes ctx a.position more r nul e in
    let is : (quotes : Quotes) (body rest value : List ℕ) → value_of (are_single quotes) body ≡ Some value → ends_before (are_single quotes) rest ≡ true → (following : Option Tok) → IsPiece a (piece_of (are_single quotes) body) rest following a.position (scalar (quoted_style quotes) value) =
    λ quotes body rest value d e following. grind (arith, nat_tests, begins_with, eqb-true) in
    record { first = quote_of (are_single quotes); more = q.body ++ quote_of (are_single quotes) ∷ []; separation = []; is_text = q.cut; is_filled = refl; is_piece = is quotes q.body r.rest r.value q.value_is q.ends; is_end = q.end_is }
