-- Of two reasons why a quoted scalar is refused at a place that both come first, kind and position are the same.
use Rattle.proof_scanner.proofs.Common.{[], inl, inr, ◌⊎◌, arith, if◌then◌else◌, ap, append-nil, are_indented, AreNotIndented, begins_separation, begins_with, Bool, closed_first, content, Element, false, GoesOn, has_break, has_marker, has_no_nul, HasNoQuoted, is_indented_by_spaces, is_separation, IsNotQuoted, IsQuoted, IsQuotedFault, lines_first, List, nat_lt, no_nul_after, off_margin, past, Position, position_after, Problem, quoted_first, quoted_scalar, refl, separations, subst, sym, tab, true, within, ℕ, ◌++◌, ◌∙◌, ◌∷◌, ◌≡◌, nat_tests, eqb-true, elements, element_of, LineStand, past_elements, Some, CommentNotSeparated, ContentAfterQuoted, TabAsIndentation, TabInBlockIndentation, further_is_no_break}
use Rattle.defs_text.specs.Classes as classes
use Rattle.proof_row.proofs.Quotes.{singles, doubles}
use Rattle.proof_scanner.specs.NoPiece as none
use Rattle.proof_scanner.specs.QuotedLines as lines
use Rattle.proof_scanner.proofs.Refusals.Common.{ends_before, same_has_break, quote_of}
use Rattle.proof_scanner.proofs.Refusals.TextsRefused.{begins_lines}
use Rattle.proof_scanner.proofs.Refusals.QuotedReasons.{one_reason, walk_of, after_quote_at, all_stand, indented_are, is_marked, by_escape, Place, Wrong, Reason}

-- ---- the quote

-- a quoted scalar begins with its quote
begins_quoted : (single : Bool) (rest piece next : List ℕ) → rest ≡ piece ++ next → IsQuoted single piece next → (more : List ℕ) × (rest ≡ quote_of single ∷ more)
begins_quoted true rest piece next e is = ((is.1.0 ++ 39 ∷ []) ++ next, e ∙ ap (λ p. p ++ next) is.1.1)
begins_quoted false rest piece next e is = ((is.1.0 ++ 34 ∷ []) ++ next, e ∙ ap (λ p. p ++ next) is.1.1)

-- a text begins with one quoted scalar
one_end : (single : Bool) (p q x y : List ℕ) → IsQuoted single p x → IsQuoted single q y → p ++ x ≡ q ++ y → (p ≡ q) × (x ≡ y)
one_end a p q x y h k e = grind (arith, nat_tests, eqb-true, singles, doubles)

module _ (least : ℕ) (here : Position) (rest : List ℕ) where
  -- ---- the reasons

  -- What is wrong after a quoted scalar: a comment right after it; or after a separation text on the line, or a TAB on a later one.
  abbrev After : (piece next : List ℕ) → Problem → Position → Type 0
  After piece next why at =
      ((begins_with 35 next ≡ true) × (why ≡ CommentNotSeparated) × (at ≡ position_after here piece next)) ⊎
      ((begins_with 35 next ≡ false) × (p : List ℕ) × (x : List ℕ) × (next ≡ p ++ x) × (is_separation false p x ≡ true) × (begins_separation x ≡ false) ×
      (why ≡ (if has_break p then TabInBlockIndentation else ContentAfterQuoted)) × (at ≡ position_after (position_after here piece next) p x))

  -- A quoted scalar does not come to its end, or it does and what follows it is wrong.
  abbrev Sorted : (single : Bool) (more : List ℕ) → Problem → Position → Type 0
  Sorted single more why at =
      (Reason single least here within (past here) more why at × ((piece next : List ℕ) → rest ≡ piece ++ next → IsQuoted single piece next → closed_first single least piece → ⊥)) ⊎
      ((piece : List ℕ) × (next : List ℕ) × (rest ≡ piece ++ next) × IsQuoted single piece next × closed_first single least piece × After piece next why at)

  -- Why a quoted scalar is refused that begins with a text at a position, or what follows it; and what is so before.
  abbrev pub QuotedReason : Problem → Position → Type 0
  QuotedReason why at = (single : Bool) × (more : List ℕ) × (rest ≡ quote_of single ∷ more) × Sorted single more why at

  module _ (piece next : List ℕ) (clean : has_no_nul next ≡ true) where
    -- a separation has one end
    one_gap : (p q x y : List ℕ) → next ≡ p ++ x → next ≡ q ++ y → is_separation false p x ≡ true → is_separation false q y ≡ true → begins_separation x ≡ false → begins_separation y ≡ false → (p ≡ q) × (x ≡ y)
    one_gap p q x y e f h k m n = separations p q x y (h, ends_before x m (no_nul_after p x (ap has_no_nul (sym e) ∙ clean))) (k, ends_before y n (no_nul_after q y (ap has_no_nul (sym f) ∙ clean))) (sym e ∙ f)

    one_after : (why1 why2 : Problem) (at1 at2 : Position) → After piece next why1 at1 → After piece next why2 at2 → (why1 ≡ why2) × (at1 ≡ at2)
    one_after why1 why2 at1 at2 x y = grind (arith, one_gap)

  module _ (single : Bool) (more : List ℕ) where
    indented : (es : List Element) → are_indented least es ≡ true → all_stand least within (past here).col (es ++ []) ≡ true
    indented es h = ap (all_stand least within (past here).col) (append-nil es) ∙ (sym (indented_are least within (past here).col es) ∙ h)

    -- a body without a wrong line is walked along to what is wrong after it
    walked : (why : Problem) (at : Position) (k : Bool) (last es : List Element) (body r : List ℕ) → more ≡ body ++ r → begins_with 10 r ≡ false → elements (element_of single) 0 body ≡ Some es → all_stand least within (past here).col (es ++ last) ≡ true → has_marker body r ≡ k
        → ((t : LineStand) (q : Position) (x : List ℕ) → is_marked q x ≡ true → k ≡ true → Wrong single least here t q x why at)
        → (all_stand least (past_elements within es) (position_after (past here) body r).col last ≡ true → k ≡ false → Place single least here (past_elements within es) (position_after (past here) body r) r why at) → Reason single least here within (past here) more why at
    walked why at k last es body r cut no_feed are fit marks marker end =
        rw cut
        (walk_of single least here (λ t q x. Wrong single least here t q x why at) last k r no_feed marker 0 body es within (past here) (omega arith) are fit (rw (off_margin here.col 0) marks) (λ f free n. inr (free, end f n)))

    by_text : (why : Problem) (n : IsNotQuoted single more why) → quoted_first single least more why n → Reason single least here within (past here) more why here
    by_text why (none.by_marker body r e has marks) first = walked why here true [] has.0 body r e (further_is_no_break 0 r first.0) has.1 (indented has.0 first.1) marks (λ t q x h _. inl (h, refl, refl)) (λ f n. absurd (cc n))
    by_text why (none.by_end has) first = walked why here false [] has.0 more [] (sym (append-nil more)) refl has.1 (indented has.0 first.1) first.0 (λ t q x h n. absurd (cc n)) (λ f n. inl (refl, refl, refl))
    by_text why (none.by_escape body r _ double e has bad) first =
        walked why here false (content 92 ∷ []) has.0 body (92 ∷ r) e refl has.1 (sym (indented_are least within (past here).col (has.0 ++ content 92 ∷ [])) ∙ first.1) first.0 (λ t q x h n. absurd (cc n)) (λ f n. by_escape single least here _ _ r why double bad f)

    by_lines : rest ≡ quote_of single ∷ more → (why : Problem) (at : Position) (n : IsQuotedFault single least here rest why at) → lines_first single least here rest why at n → Reason single least here within (past here) more why at
    unfolding classes.is_break classes.is_blank
    by_lines whole why at (lines.by_column body r es e are solid further low) first =
        let all : quote_of single ∷ more ≡ quote_of single ∷ (body ++ r) = sym whole ∙ e in
        walked why at false [] es body r (cc all) (grind arith) are (indented es first.1) first.0 (λ t q x h n. absurd (cc n)) (λ f n. inr (inr (inl (solid, further, ap (λ (q : Position). nat_lt q.col least) (sym (after_quote_at single here body r)) ∙ low, refl, refl))))
    by_lines whole why at (lines.by_tab body r es e are further low) first =
        let all : quote_of single ∷ more ≡ quote_of single ∷ (body ++ tab ∷ r) = sym whole ∙ e in
        let there = after_quote_at single here body (tab ∷ r) in
        rw there
        (walked TabAsIndentation _ false [] es body (tab ∷ r) (cc all) refl are (indented es first.1) first.0 (λ t q x h n. absurd (cc n)) (λ f n. inr (inr (inr (r, refl, further, ap (λ (q : Position). nat_lt q.col least) (sym there) ∙ low, refl, refl)))))

    one_sorted : has_no_nul rest ≡ true → (why1 why2 : Problem) (at1 at2 : Position) → Sorted single more why1 at1 → Sorted single more why2 at2 → (why1 ≡ why2) × (at1 ≡ at2)
    one_sorted clean why1 why2 at1 at2 (inl x) (inl y) = one_reason single least here within (past here) more why1 why2 at1 at2 x.0 y.0
    one_sorted clean why1 why2 at1 at2 (inl x) (inr y) = absurd (x.1 y.0 y.1 y.2 y.3 y.4)
    one_sorted clean why1 why2 at1 at2 (inr x) (inl y) = absurd (y.1 x.0 x.1 x.2 x.3 x.4)
    one_sorted clean why1 why2 at1 at2 (inr x) (inr y) =
        let same = one_end single y.0 x.0 y.1 x.1 y.3 x.3 (sym y.2 ∙ x.2) in
        one_after x.0 x.1 (no_nul_after x.0 x.1 (sym (ap has_no_nul x.2) ∙ clean)) why1 why2 at1 at2 x.5 (rw (sym same.1) (rw (sym same.0) y.5))

  pub closed : (single : Bool) (piece next : List ℕ) (why : Problem) (at : Position) → rest ≡ piece ++ next → IsQuoted single piece next → closed_first single least piece → After piece next why at → QuotedReason why at
  closed single piece next why at e is fit a = let z = begins_quoted single rest piece next e is in (single, z.0, z.1, inr (piece, next, e, is, fit, a))

  pub unquoted : (single : Bool) (more : List ℕ) (why : Problem) → rest ≡ quote_of single ∷ more → HasNoQuoted single rest → (n : IsNotQuoted single more why) → quoted_first single least more why n → QuotedReason why here
  unquoted single more why e lacks n first = (single, more, e, inl (by_text single more why n first, λ piece next f is fit. lacks piece next f is))

  pub no_quoted : (single : Bool) (why : Problem) (at : Position) → AreNotIndented single least rest → (n : IsQuotedFault single least here rest why at) → lines_first single least here rest why at n → QuotedReason why at
  no_quoted single why at h n e = grind (arith, nat_tests, eqb-true, begins_lines least here rest, by_lines)

  pub after_quoted : (single : Bool) (piece more passed content : List ℕ) → rest ≡ piece ++ more → IsQuoted single piece more → GoesOn more passed content → begins_separation content ≡ false → closed_first single least piece × (begins_with 35 more ≡ false)
      → QuotedReason ContentAfterQuoted (position_after (position_after here piece more) passed content)
  after_quoted single piece more passed left e is on solid first = grind (arith, nat_tests, eqb-true, closed, same_has_break)

  -- a TAB indents a line of its own
  own_line : (blocks : List ℕ) (awaits : Bool) (gap : List ℕ) → is_indented_by_spaces quoted_scalar blocks awaits gap ≡ false → has_break gap ≡ true
  own_line blocks awaits gap h = grind arith

  pub tab_after_quoted : (single : Bool) (piece gap content : List ℕ) (blocks : List ℕ) (awaits : Bool) → rest ≡ piece ++ (gap ++ content) → IsQuoted single piece (gap ++ content) → is_separation false gap content ≡ true → begins_separation content ≡ false
      → is_indented_by_spaces quoted_scalar blocks awaits gap ≡ false → closed_first single least piece → begins_with 35 (gap ++ content) ≡ false → QuotedReason TabInBlockIndentation (position_after (position_after here piece (gap ++ content)) gap content)
  tab_after_quoted single piece gap left blocks awaits e is fills solid indents fit free = grind (arith, nat_tests, eqb-true, closed, own_line)

  -- What is wrong first with a quoted scalar is one thing at one position.
  pub one_quoted : has_no_nul rest ≡ true → (why1 why2 : Problem) (at1 at2 : Position) → QuotedReason why1 at1 → QuotedReason why2 at2 → (why1 ≡ why2) × (at1 ≡ at2)
  one_quoted clean why1 why2 at1 at2 x y =
      let both : quote_of y.0 ∷ y.1 ≡ quote_of x.0 ∷ x.1 = sym y.2 ∙ x.2 in
      let same : (b c : Bool) → quote_of b ≡ quote_of c → b ≡ c = λ b c e. grind arith in
      one_sorted x.0 x.1 clean why1 why2 at1 at2 x.3 (subst (λ m. Sorted x.0 m why2 at2) (cc both) (subst (λ b. Sorted b y.1 why2 at2) (same y.0 x.0 (cc both)) y.3))
