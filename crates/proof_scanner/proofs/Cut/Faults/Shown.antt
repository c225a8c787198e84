-- What is wrong where a piece begins stands in the text, if it is a fault that stands there by itself.
use Rattle.proof_scanner.proofs.Common.{[], account_past_separation, ap, arith, Arrives, At, before_by, before_past, Bool, chosen, Entry, entries_by, Fails, false, is_empty, is_in_flow, is_shown, IsCutUpTo, IsSpot, IsThere, Key, length, List, nat_tests, None, not, Option, Problem, refl, ScannerState, suc, sym, true, ℕ, ◌++◌, ◌∙◌, ◌∷◌, ◌≡◌, Position, eqb-true, Fault, AnchorIndentation, bad_escape, open_quote, marked_quote, too_deep, entry_in_flow, dash_in_flow}
use Rattle.defs_token.specs.Account.{Account}
use Rattle.proof_row.proofs.CutPieces.{account_by}
use Rattle.proof_row.proofs.CutSteps.{somes, with_key, levels_in}
use Rattle.proof_scanner.proofs.Sound.Stales.{arrives_cut}
use Rattle.proof_scanner.specs.NoPiece as none
use Rattle.proof_scanner.specs.Failing as failing
use Rattle.proof_lexers.specs.DirectiveEnds as directives
use Rattle.proof_lexers.specs.TagEnds as tag_ends

-- ---- the faults of directives and tags are none of those that are told apart by themselves

-- whether a fault is that of a property in the first column before an entry there
abbrev pub is_margin_fault : Fault → Bool
is_margin_fault (At AnchorIndentation p) = true
is_margin_fault _ = false

-- the fault is neither that nor one that is shown
abbrev pub IsNeither : Fault → Type 0
IsNeither f = (is_shown f ≡ false) × (is_margin_fault f ≡ false)

pub line_neither : (start : Position) (line : List ℕ) (f : Fault) → directives.IsDirectiveRefusal start line f → IsNeither f
line_neither a b f n = grind (arith, nat_tests, eqb-true)

pub tag_neither : (flow : Bool) (t : List ℕ) (why : Problem) (p : Position) → tag_ends.IsTagRefusal flow t why → IsNeither (At why p)
tag_neither flow t why p n = grind (arith)

many_levels : (cs : List Bool) (ks : List (Option Key)) (es : List Entry) → length (entries_by cs ks es) ≡ length (levels_in es)
many_levels cs ks [] = refl
many_levels cs ks (e ∷ es) = ap suc (many_levels _ _ es)

flows : (cs : List Bool) (ks : List (Option Key)) (es : List Entry) → is_in_flow (entries_by cs ks es) ≡ true → not (is_empty (levels_in es)) ≡ true
flows cs ks [] h = absurd (cc h)
flows cs ks (e ∷ es) h = refl

module _ (text : List ℕ) (t : ScannerState) (a : Arrives text t) where
  -- the account where a piece begins
  abbrev now : Account
  now = account_by t.held.position (before_past (before_by a.base.site.before) a.separation) (somes (with_key a.base.site.blocks a.base.line)) (levels_in a.base.entries)

  -- where a piece begins is a position after a row of pieces
  spot : (rest : List ℕ) → t.rest ≡ rest → IsSpot text rest now
  spot rest e = let c : IsCutUpTo text (a.separation ++ t.rest) a.base a.tokens = arrives_cut text t a in
      rw (sym e) (search (
        c.is_text,
        c.is_row.is_row None,
        a.is_filled,
        ap (λ b. account_past_separation b a.separation t.rest) c.is_row.past ∙
            ap (λ p. account_by p (before_past (before_by a.base.site.before) a.separation) (somes (with_key a.base.site.blocks a.base.line)) (levels_in a.base.entries)) (sym a.position_is),
      ))

  quoted_stands : (single : Bool) (more : List ℕ) (why : Problem) → t.rest ≡ none.quote_of single ∷ more → none.IsNotQuoted single more why → IsThere text (At why t.held.position)
  quoted_stands single more why e (none.by_marker body rest cut has marks) = marked_quote now single body rest (spot _ (e ∙ ap (λ r. none.quote_of single ∷ r) cut)) has marks
  quoted_stands single more why e (none.by_end has) = open_quote now single more (spot _ e) has
  quoted_stands true more why e (none.by_escape body rest _ double cut has bad) = absurd (cc double)
  quoted_stands false more why e (none.by_escape body rest _ double cut has bad) = bad_escape now body rest why (spot _ (e ∙ ap (λ r. 34 ∷ r) cut)) has bad

  module _ (c : Bool) (cs : List Bool) where
    plain_stands : (why : Problem) (at : Position)
        → none.IsPlainFault (is_in_flow (entries_by cs t.held.keys a.base.entries)) (failing.site_at_place (chosen c cs t.held.keys a.base) t.held.position).blocks t.held.position t.rest why at → is_shown (At why at) ≡ true → IsThere text (At why at)
    plain_stands why at (none.by_dash before rest flow cut begins over apart) h = dash_in_flow now before rest (spot _ cut) begins (flows cs t.held.keys a.base.entries flow) apart
    plain_stands why at n h = absurd (cc h)

    may_not_stands : (why : Problem) (at : Position) → failing.MayNotStand (chosen c cs t.held.keys a.base) a.separation t.held.position t.rest why at → is_shown (At why at) ≡ true → IsThere text (At why at)
    may_not_stands why at (failing.too_deep bracket more e is many) h =
        let same = many_levels cs t.held.keys a.base.entries in
        too_deep now bracket more (spot _ e) (grind arith) (grind (arith, nat_tests, many, same))
    may_not_stands why at (failing.dash_in_flow more e gap inside) h = entry_in_flow now more (spot _ e) gap (flows cs t.held.keys a.base.entries inside)
    may_not_stands why at n h = absurd (cc h)

    -- what fails by a choice of keys
    pub stands : (why : Problem) (at : Position) → Fails (chosen c cs t.held.keys a.base) a.separation t.held.position t.rest why at → is_shown (At why at) ≡ true → IsThere text (At why at)
    stands why a b h = grind (arith, quoted_stands, tag_neither, line_neither, plain_stands, nat_tests, eqb-true, may_not_stands)
