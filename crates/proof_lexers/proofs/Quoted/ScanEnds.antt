-- Each scan of a quoted scalar ends as its text says.
use Rattle.proof_lexers.proofs.Common.{[], after_elements, after_gap, ap, append-nil, At, Bool, by_end, by_escape, by_line, by_marker, Context, ends_before, EndsAs, escape, false, Fault, first, Folded, gap, has_marker, HasElements, is_blank, is_break, is_document_marker, IsQuotedRead, IsQuotedRefusal, IsShallow, joined, List, Mode, None, nothing, past, Position, quote_of, quoted, QuotedScansEndAsTheirTextSays, Read, read, reads, refl, refuses, Result, shallow, slice_index, Some, sym, true, ℕ, ◌++◌, ◌==◌, ◌∙◌, ◌∷◌, ◌≡◌, subst, QuotedDocumentMarker, QuotedEnd, QuotedIndentation, TabAsIndentation}
use Rattle.proof_lexers.specs.QuotedScan.{IsRead}
use Rattle.proof_lexers.specs.QuotedScan as scans
use Rattle.proof_lexers.specs.QuotedEnds.{by_column, by_tab}
use Rattle.proof_lexers.proofs.Fold.{buffers_join}
use Rattle.proof_lexers.proofs.Quoted.Turns.{no_marker, Ready, in_gap, after_escaped, scan, Begun, begun, begins}
use Rattle.proof_lexers.proofs.Quoted.Turns as turns
use Rattle.proof_lexers.proofs.Quoted.NoNul.{has_none, same_marks}
use Rattle.proof_lexers.proofs.Quoted.Bodies.{through, quote_still, quote_feed, close, no_mark}
use Rattle.proof_lexers.proofs.Quoted.Values.{value_is}
use Rattle.proof_lexers.proofs.Quoted.Shapes.{Shape, closed, unclosed, badly_escaped, shape_of}
use Rattle.proof_lexers.proofs.Quoted.Faults.{escape_fails}

module _ (single : Bool) (ctx : Context) (start : Position) (text : List ℕ) where
  abbrev Ends : Result (Read (List ℕ)) Fault → Type 0
  Ends x = EndsAs (IsQuotedRead single text) (IsQuotedRefusal single ctx start text) x

  is_shallow : (x : Result (Read (List ℕ)) Fault) → IsShallow ctx start x → Ends x
  is_shallow x (by_line p h e) = refuses (At QuotedIndentation start) (by_column p h) e
  is_shallow x (scans.by_tab p h e) = refuses (At TabAsIndentation p) (by_tab p h) e

  from_body : (body rest : List ℕ) (has : HasElements single body) → text ≡ body ++ rest → (slice_index rest 0 == 10) ≡ false → is_document_marker rest ≡ false
      → ((m : Mode) (q : Position) → Ready single (after_elements has.0 nothing) m → has_marker body rest ≡ false → Ends (scan single ctx start rest m q (after_elements has.0 nothing)))
      → Ends (scan single ctx start text first (past start) nothing)
  from_body body rest has cut no_feed still goes =
      subst (λ a. Ends (scan single ctx start a first (past start) nothing)) (sym cut)
      (through single ctx start Ends body rest has.0 has.1 no_feed still is_shallow (λ meets. refuses (At QuotedDocumentMarker start) (by_marker body rest cut has meets) refl) goes)

  -- a closing quote
  closes : (body rest : List ℕ) (has : HasElements single body) → text ≡ body ++ quote_of single ∷ rest → ends_before single rest ≡ true → has_marker body (quote_of single ∷ rest) ≡ false
      → (x : Result (Read (List ℕ)) Fault) → IsRead ctx start ((joined (after_elements has.0 nothing)).text) rest x → Ends x
  closes body rest has cut ends none x (shallow s) = is_shallow x s
  closes body rest has cut ends none x (read position e) =
      let unmarked = sym (same_marks single body rest (has_none single 0 body has.0 has.1)) ∙ none in
      reads _ (record { body = body; is_text = cut; is_value = value_is single body has.0 has.1 unmarked ∙ ap Some (sym (buffers_join has.0)); may_end = ends }) e

  -- no closing quote
  at_end : (m : Mode) (q : Position) (t : Folded) → Ready single t m → HasElements single text → Ends (scan single ctx start [] m q t)
  at_end m q t in_gap has = refuses (At QuotedEnd start) (by_end has) refl
  at_end m q t (after_escaped double e f) has = refuses (At QuotedEnd start) (by_end has) refl

-- ---- an escape that is none

module _ (ctx : Context) (start : Position) (text body rest : List ℕ) (cut : text ≡ body ++ 92 ∷ rest) (has : HasElements false body) (bad : escape rest ≡ None) where
  in_line : (p : Position) (t : Folded) → Begun false ctx start (92 ∷ rest) p t → Ends false ctx start text (scan false ctx start (92 ∷ rest) gap p t)
  in_line p t (begun none deep e) = let z = escape_fails ctx start rest p (joined t) bad in refuses (At z.why start) (by_escape body rest z.why refl cut has z.bad) (e ∙ z.is)
  in_line p t (turns.marked e f) = absurd (no_mark (p.col == 0) (is_document_marker (92 ∷ rest)) (no_marker 92 rest refl refl) e)
  in_line p t (turns.shallow h e) = refuses (At QuotedIndentation start) (by_column p h) e

  at_escape : (m : Mode) (p : Position) (t : Folded) → Ready false t m → Ends false ctx start text (scan false ctx start (92 ∷ rest) m p t)
  unfolding is_break is_blank
  at_escape m p t in_gap = in_line p t (begins false ctx start 92 rest p t refl)
  at_escape m p t (after_escaped double e f) = rw (after_gap false ctx start 92 (92 ∷ rest) p t refl refl) (in_line p t (begins false ctx start 92 rest p t refl))

-- ---- every text

by_shape : (single : Bool) (ctx : Context) (start : Position) (text : List ℕ) → Shape single text → Ends single ctx start text (scan single ctx start text first (past start) nothing)
by_shape single ctx start text (closed body rest cut has ends) =
    from_body single ctx start text body (quote_of single ∷ rest) has cut (quote_feed single rest) (quote_still single rest)
    (λ m q ready none. closes single ctx start text body rest has cut ends none _ (close single ctx start rest ends m q (after_elements has.0 nothing) ready))
by_shape single ctx start text (unclosed has) =
    from_body single ctx start text text [] has (sym (append-nil text)) refl refl (λ m q ready none. at_end single ctx start text m q (after_elements has.0 nothing) ready has)
by_shape true ctx start text (badly_escaped body rest double cut has bad) = cc
by_shape false ctx start text (badly_escaped body rest double cut has bad) =
    from_body false ctx start text body (92 ∷ rest) has cut refl (no_marker 92 rest refl refl) (λ m q ready none. at_escape ctx start text body rest cut has bad m q (after_elements has.0 nothing) ready)

pub scans_end : QuotedScansEndAsTheirTextSays
unfolding quoted
scans_end single ctx text p full = by_shape single ctx p text (shape_of single text full)
