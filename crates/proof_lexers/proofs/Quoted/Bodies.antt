-- The model over the elements of a body, up to its closing quote.
use Rattle.proof_lexers.proofs.Common.{[], after_element, after_elements, after_gap, after_quote, ap, append-nil, At, at_marker, Bool, by_line, cases_Bool, cases_Option, closed_end, Context, double_quoted_element, drop, Element, element_of, elements, ends_before, Err, false, Fault, first, Folded, followed, gap, has_marker, inl, inr, inside, is_blank, is_break, is_document_marker, IsShallow, joined, List, Mode, nat_lt, None, nothing, Ok, Option, past, Position, quote_of, Read, read, refl, refused, Result, shallow, slice_index, Some, Spelled, suc, sym, true, zero, ℕ, ◌&&◌, ◌++◌, ◌+◌, ◌==◌, ◌||◌, ◌∙◌, ◌∷◌, ◌≡◌, arith, QuotedDocumentMarker, QuotedIndentation}
use Rattle.proof_lexers.specs.QuotedScan.{IsRead}
use Rattle.proof_lexers.proofs.Quoted.Turns.{no_marker, off_margin, Ready, in_gap, after_escaped, scan, Begun, begun, marked, begins, Step, steps, is_marked, is_shallow, StepOf, may_stand}
use Rattle.proof_lexers.proofs.Quoted.Turns as turns
use Rattle.proof_lexers.proofs.Quoted.Elements.{step}

-- whether a line begins with a document marker, the one at this column or a later one
abbrev pub marked_from : ℕ → List ℕ → List ℕ → Bool
marked_from col a r = ((col == 0) && is_document_marker (a ++ r)) || has_marker a r

-- After a body's elements: before the text after it, or refused on the way.
pub data Passed (single : Bool) (ctx : Context) (start : Position) (x : Result (Read (List ℕ)) Fault) (a r : List ℕ) (col : ℕ) (t : Folded) : Type 0 where
  passed : (m : Mode) (q : Position) → Ready single t m → marked_from col a r ≡ false → x ≡ scan single ctx start r m q t → Passed single ctx start x a r col t
  met_marker : marked_from col a r ≡ true → x ≡ Err (At QuotedDocumentMarker start) → Passed single ctx start x a r col t
  was_shallow : IsShallow ctx start x → Passed single ctx start x a r col t

passed_on : (single : Bool) (ctx : Context) (start : Position) (x : Result (Read (List ℕ)) Fault) (a b r : List ℕ) (col n : ℕ) (t : Folded) → marked_from col a r ≡ marked_from n b r → Passed single ctx start x b r n t → Passed single ctx start x a r col t
passed_on single ctx start x a b r col n t same (passed m q ready none is) = passed m q ready (same ∙ none) is
passed_on single ctx start x a b r col n t same (met_marker meets is) = met_marker (same ∙ meets) is
passed_on single ctx start x a b r col n t same (was_shallow s) = was_shallow s

-- a quote begins neither a marker nor a line
pub quote_still : (single : Bool) (r : List ℕ) → is_document_marker (quote_of single ∷ r) ≡ false
quote_still single r = grind (arith, no_marker)

pub quote_feed : (single : Bool) (r : List ℕ) → (slice_index (quote_of single ∷ r) 0 == 10) ≡ false
quote_feed single r = grind arith

module _ (single : Bool) (ctx : Context) (start : Position) where
  -- an element may begin after an escaped break as in a gap
  pub from_gap : (c : ℕ) (b a : List ℕ) (s : Spelled) (m : Mode) (p : Position) (t : Folded) → element_of single c b ≡ Some s → Ready single t m → scan single ctx start (c ∷ a) m p t ≡ scan single ctx start (c ∷ a) gap p t
  unfolding double_quoted_element
  from_gap c b a s m p t h in_gap = refl
  from_gap c b a s m p t h (after_escaped double e f) = grind (arith, after_gap)

  abbrev Passes : ℕ → List ℕ → List ℕ → Type 0
  Passes n a r = (es : List Element) (m : Mode) (p : Position) (t : Folded) → elements (element_of single) n a ≡ Some es → Ready single t m
      → Passed single ctx start (scan single ctx start (drop n a ++ r) m p t) (drop n a) r p.col (after_elements es t)

  by_step : (c : ℕ) (b r : List ℕ) (s : Spelled) (es : List Element) (m : Mode) (p : Position) (t : Folded) → element_of single c b ≡ Some s → elements (element_of single) s.further b ≡ Some es → Ready single t m
      → Passes s.further b r → Step single ctx start c b r p t s → Passed single ctx start (scan single ctx start (c ∷ (b ++ r)) m p t) (c ∷ b) r p.col (after_elements (s.element ∷ es) t)
  by_step c b r s es m p t h k ready others (steps n q at after full none marks is) =
      rw (from_gap c b (b ++ r) s m p t h ready ∙ is) (passed_on single ctx start _ (c ∷ b) (drop s.further b) r p.col q.col _ (rw none marks) (others es n q (after_element s.element t) k after))
  by_step c b r s es m p t h k ready others (is_marked e f) = met_marker (rw e refl) (from_gap c b (b ++ r) s m p t h ready ∙ f)
  by_step c b r s es m p t h k ready others (is_shallow low e) = rw (from_gap c b (b ++ r) s m p t h ready) (was_shallow e)

  by_element : (c : ℕ) (b r : List ℕ) (o : Option Spelled) (es : List Element) (m : Mode) (p : Position) (t : Folded) → element_of single c b ≡ o → followed o (λ n. elements (element_of single) n b) ≡ Some es
      → Ready single t m → ((n : ℕ) → Passes n b r) → StepOf single ctx start c b r p t o → Passed single ctx start (scan single ctx start (c ∷ (b ++ r)) m p t) (c ∷ b) r p.col (after_elements es t)
  by_element c b r None es m p t h e ready others z = cc
  by_element c b r (Some s) es m p t h e ready others z = elim (cases_Option (elements (element_of single) s.further b)) [
    | inl k ↦ let no : None ≡ Some es = rw k at e in cc
    | inr fs ↦ let known = rw fs.1 at e in let same : s.element ∷ fs.0 ≡ es = cc (known) in rw (← same) (by_step c b r s fs.0 m p t h fs.1 ready (others s.further) z)
  ]

  no_elements : (r : List ℕ) (es : List Element) (m : Mode) (p : Position) (t : Folded) → is_document_marker r ≡ false → Some [] ≡ Some es → Ready single t m
      → Passed single ctx start (scan single ctx start r m p t) [] r p.col (after_elements es t)
  no_elements r es m p t still h ready = let none : es ≡ [] = cc in rw none (passed m p ready (rw still (grind arith)) refl)

  -- what the scan does up to the text after a body's elements
  pub passes : (n : ℕ) (a r : List ℕ) → (slice_index r 0 == 10) ≡ false → is_document_marker r ≡ false → Passes n a r
  passes (suc n) (c ∷ b) r no_feed still es m p t h ready = passes n b r no_feed still es m p t h ready
  passes zero (c ∷ b) r no_feed still es m p t h ready =
      by_element c b r (element_of single c b) es m p t refl h ready (λ n. passes n b r no_feed still) (step single ctx start c b r p t no_feed)
  passes n a r no_feed still es m p t h ready = no_elements r es m p t still h ready

  -- ---- the opening quote

  pub first_is_gap : (a : List ℕ) (p : Position) → (p.col == 0) ≡ false → nat_lt (p.col + 1) ctx.indent ≡ false → scan single ctx start a first p nothing ≡ scan single ctx start a gap p nothing
  first_is_gap [] p e f = refl
  first_is_gap (c ∷ a) p e f = grind (arith, may_stand)

  pub first_fails : (c : ℕ) (a : List ℕ) (p : Position) → (p.col == 0) ≡ false → nat_lt (p.col + 1) ctx.indent ≡ true → scan single ctx start (c ∷ a) first p nothing ≡ Err (At QuotedIndentation start)
  unfolding refused at_marker
  first_fails c a p e f = rw (e, f) refl

  -- After the opening quote the scan goes on as in a gap, or the position after it is refused.
  pub data Opened (a : List ℕ) (p : Position) : Type 0 where
    opened : scan single ctx start a first p nothing ≡ scan single ctx start a gap p nothing → Opened a p
    not_opened : IsShallow ctx start (scan single ctx start a first p nothing) → Opened a p

  pub opens : (a : List ℕ) (p : Position) → (p.col == 0) ≡ false → Opened a p
  opens [] p e = opened refl
  opens (c ∷ a) p e = elim (cases_Bool (nat_lt (p.col + 1) ctx.indent)) [ inl f ↦ not_opened (by_line p f (first_fails c a p e f)) | inr f ↦ opened (first_is_gap (c ∷ a) p e f) ]

  -- What holds of each way in which a text of elements and more ends, holds of its scan from the opening quote on.
  pub through : (P : Result (Read (List ℕ)) Fault → Type 0) (body rest : List ℕ) (es : List Element) → elements (element_of single) 0 body ≡ Some es → (slice_index rest 0 == 10) ≡ false → is_document_marker rest ≡ false
      → ((x : Result (Read (List ℕ)) Fault) → IsShallow ctx start x → P x) → (has_marker body rest ≡ true → P (Err (At QuotedDocumentMarker start)))
      → ((m : Mode) (q : Position) → Ready single (after_elements es nothing) m → has_marker body rest ≡ false → P (scan single ctx start rest m q (after_elements es nothing))) → P (scan single ctx start (body ++ rest) first (past start) nothing)
  through P body rest es are no_feed still is_low by_mark goes = let off = off_margin start.col 0 in elim (opens (body ++ rest) (past start) off) [
    | not_opened s ↦ is_low _ s
    | opened e ↦ rw e (elim (passes 0 body rest no_feed still es gap (past start) nothing are in_gap) [
      | passed m q ready none f ↦ rw f (goes m q ready (rw off at none))
      | met_marker meets f ↦ rw f (by_mark (rw off at meets))
      | was_shallow s ↦ is_low _ s
    ])
  ]

-- ---- the closing quote

closes : (single : Bool) (ctx : Context) (start : Position) (r : List ℕ) (p : Position) (u : Folded) → ends_before single r ≡ true → scan single ctx start (quote_of single ∷ r) inside p u ≡ Ok (record { rest = r; position = past p; value = u.text })
unfolding is_break is_blank
closes single ctx start r p u h = grind (arith, closed_end)

pub no_mark : (x y : Bool) → y ≡ false → (x && y) ≡ true → ⊥
no_mark x y e f = grind arith

module _ (single : Bool) (ctx : Context) (start : Position) (r : List ℕ) (ends : ends_before single r ≡ true) where
  in_line : (p : Position) (t : Folded) → Begun single ctx start (quote_of single ∷ r) p t → IsRead ctx start (joined t).text r (scan single ctx start (quote_of single ∷ r) gap p t)
  in_line p t (begun none deep is) = read (past p) (is ∙ closes single ctx start r p (joined t) ends)
  in_line p t (marked e f) = absurd (no_mark (p.col == 0) (is_document_marker (quote_of single ∷ r)) (quote_still single r) e)
  in_line p t (turns.shallow e f) = shallow (by_line p e f)

  pub close : (m : Mode) (p : Position) (t : Folded) → Ready single t m → IsRead ctx start (joined t).text r (scan single ctx start (quote_of single ∷ r) m p t)
  unfolding is_break is_blank
  close m p t in_gap = in_line p t (begins single ctx start (quote_of single) r p t (grind arith))
  close m p t (after_escaped double e f) =
      read (past p) (after_quote single ctx start (quote_of single) (quote_of single ∷ r) p t refl refl ∙ closes single ctx start r p t ends ∙ ap (λ text. Ok (record { rest = r; position = past p; value = text })) (elim (cases_Bool t.leading) [ inl g ↦ rw (g, f, e) (sym (append-nil t.text)) | inr g ↦ rw (g, e) (sym (append-nil t.text)) ]))
