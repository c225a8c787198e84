-- What the model does at an element of a body.
use Rattle.proof_lexers.proofs.Common.{[], after_element, along, and_parts, append-nil, arith, At, at_marker, blank, Bool, break_further, by_line, cases_Bool, content, Context, drop, Element, eqb-true, Err, false, Fault, Folded, gap, has_marker, inl, inr, inside, is_blank, is_break, is_document_marker, IsShallow, joined, line_break, List, list_all, Mode, nat_lt, nat_tests, None, Ok, Option, past, past_break, Position, quoted_from, Read, refl, refused, Result, slice_index, Some, Spelled, take, true, with_char, ℕ, ◌&&◌, ◌++◌, ◌+◌, ◌==◌, ◌||◌, ◌∙◌, ◌∷◌, ◌≡◌, ◌≤◌, QuotedDocumentMarker, QuotedIndentation, is_some, are_marks, same_break, same_marker, and_false}
use Rattle.defs_text.specs.Classes as classes
use Rattle.model_scanner.specs.Quoted.{after}
use Rattle.proof_lexers.specs.QuotedScan.{by_tab}
use Rattle.proof_lexers.proofs.Along.{along_more}

-- after so many characters of a line
pub off_margin : (n k : ℕ) → (n + (k + 1) == 0) ≡ false
off_margin n k = grind (arith, nat_tests)

pub no_marker : (c : ℕ) (a : List ℕ) → (c == 45) ≡ false → (c == 46) ≡ false → is_document_marker (c ∷ a) ≡ false
unfolding are_marks
no_marker c b e f = grind arith

pub feed_is_no_marker : (a : List ℕ) → is_document_marker (10 ∷ a) ≡ false
feed_is_no_marker a = no_marker 10 a refl refl

-- within a line, no gap before the next character
abbrev pub plain : List ℕ → Folded
plain text = record { text = text; gap = []; leading = false; escaped = false }

-- Where an element may begin: after an escaped break a closing quote is not checked for its column.
pub data Ready (single : Bool) (t : Folded) : Mode → Type 0 where
  in_gap : Ready single t gap
  after_escaped : single ≡ false → t.gap ≡ [] → t.escaped ≡ true → Ready single t after

-- an element, and how many characters after its first one belong to it
abbrev pub spelled : Element → ℕ → Spelled
spelled e k = record { element = e; further = k }

module _ (single : Bool) (ctx : Context) (start : Position) where
  abbrev pub scan : List ℕ → Mode → Position → Folded → Result (Read (List ℕ)) Fault
  scan a m p t = quoted_from single ctx start a (record { mode = m; position = p; folded = t })

  -- A character that is neither blank nor break begins a line or goes on in one, or is refused.
  pub data Begun (a : List ℕ) (p : Position) (t : Folded) : Type 0 where
    begun : ((p.col == 0) && is_document_marker a) ≡ false → nat_lt (p.col + 1) ctx.indent ≡ false → scan a gap p t ≡ scan a inside p (joined t) → Begun a p t
    marked : ((p.col == 0) && is_document_marker a) ≡ true → scan a gap p t ≡ Err (At QuotedDocumentMarker start) → Begun a p t
    shallow : nat_lt (p.col + 1) ctx.indent ≡ true → scan a gap p t ≡ Err (At QuotedIndentation start) → Begun a p t

  pub begins : (c : ℕ) (a : List ℕ) (p : Position) (t : Folded) → (is_break c || is_blank c) ≡ false → Begun (c ∷ a) p t
  unfolding refused
  begins c a p t g = grind (arith, marked, same_marker, shallow, begun)

  -- where a document marker stands it is refused for that
  pub begins_marked : (c : ℕ) (a : List ℕ) (p : Position) (t : Folded) → (is_break c || is_blank c) ≡ false → ((p.col == 0) && is_document_marker (c ∷ a)) ≡ true → scan (c ∷ a) gap p t ≡ Err (At QuotedDocumentMarker start)
  unfolding refused
  begins_marked c a p t g h = let e : at_marker p.col (c ∷ a) ≡ true = same_marker p.col (c ∷ a) ∙ h in rw (g, e) refl

  pub may_stand : (a : List ℕ) (p : Position) → (p.col == 0) ≡ false → nat_lt (p.col + 1) ctx.indent ≡ false → refused ctx start a p ≡ Ok tt
  unfolding refused at_marker
  may_stand a p e f = rw (e, f) refl

  -- within a line that may stand there a gap may begin at any position
  pub inside_is_gap : (a : List ℕ) (p : Position) (text : List ℕ) → (p.col == 0) ≡ false → nat_lt (p.col + 1) ctx.indent ≡ false → scan a inside p (plain text) ≡ scan a gap p (plain text)
  inside_is_gap [] p text e f = refl
  inside_is_gap (c ∷ a) p text e f = elim (cases_Bool (is_break c || is_blank c)) [ inl g ↦ rw g refl | inr g ↦ rw (g, may_stand (c ∷ a) p e f, append-nil) refl ]

  -- One character of the text was taken, which is written so.
  abbrev pub Taken : (x : Result (Read (List ℕ)) Fault) (a : List ℕ) (p : Position) (w : List ℕ) (u : Folded) (code : ℕ) → Type 0
  Taken x a p w u code = x ≡ scan a inside (along w p) (with_char code u)

  -- Where an element ends that is written so; told of content alone.
  abbrev pub EndsAt : Element → Position → List ℕ → Position → Type 0
  EndsAt (content code) p w q = q ≡ along w p
  EndsAt _ p w q = Unit {0}

  -- The scan at an element of a body, before the body's rest b and the text r after it.
  pub data Step (c : ℕ) (b r : List ℕ) (p : Position) (t : Folded) (s : Spelled) : Type 0 where
    steps : (m : Mode) (q : Position) → EndsAt s.element p (c ∷ take s.further b) q → Ready single (after_element s.element t) m → list_all is_some (c ∷ b) ≡ list_all is_some (drop s.further b) → ((p.col == 0) && is_document_marker (c ∷ (b ++ r))) ≡ false
        → has_marker (c ∷ b) r ≡ (((q.col == 0) && is_document_marker (drop s.further b ++ r)) || has_marker (drop s.further b) r)
        → scan (c ∷ (b ++ r)) gap p t ≡ scan (drop s.further b ++ r) m q (after_element s.element t) → Step c b r p t s
    is_marked : ((p.col == 0) && is_document_marker (c ∷ (b ++ r))) ≡ true → scan (c ∷ (b ++ r)) gap p t ≡ Err (At QuotedDocumentMarker start) → Step c b r p t s
    is_shallow : nat_lt (p.col + 1) ctx.indent ≡ true → IsShallow ctx start (scan (c ∷ (b ++ r)) gap p t) → Step c b r p t s

  abbrev pub StepOf : ℕ → List ℕ → List ℕ → Position → Folded → Option Spelled → Type 0
  StepOf c b r p t None = Unit {0}
  StepOf c b r p t (Some s) = Step c b r p t s

  -- an element that is content
  content_by : (c : ℕ) (b r : List ℕ) (k code : ℕ) (p : Position) (t : Folded) → Taken (scan (c ∷ (b ++ r)) inside p (joined t)) (drop k b ++ r) p (c ∷ take k b) (joined t) code → has_marker (c ∷ b) r ≡ has_marker (drop k b) r → list_all is_some (c ∷ b) ≡ list_all is_some (drop k b)
      → Begun (c ∷ (b ++ r)) p t → Step c b r p t (spelled (content code) k)
  content_by c b r k code p t z same full (begun none deep is) =
      let q : Position = along (c ∷ take k b) p in
      let further : p.col + 1 ≤ q.col = along_more (take k b) (past p) in
      let off : (q.col == 0) ≡ false = grind (arith, nat_tests, further) in
      let still_deep : nat_lt (q.col + 1) ctx.indent ≡ false = grind (arith, nat_tests, further, deep) in
      steps gap q refl in_gap full none (same ∙ rw off refl) (is ∙ z ∙ inside_is_gap (drop k b ++ r) q ((joined t).text ++ code ∷ []) off still_deep)
  content_by c b r k code p t z same full (marked e is) = is_marked e is
  content_by c b r k code p t z same full (shallow e is) = is_shallow e (by_line p e is)

  pub content_step : (c : ℕ) (b r : List ℕ) (k code : ℕ) (p : Position) (t : Folded) → (is_break c || is_blank c) ≡ false → Taken (scan (c ∷ (b ++ r)) inside p (joined t)) (drop k b ++ r) p (c ∷ take k b) (joined t) code
      → has_marker (c ∷ b) r ≡ has_marker (drop k b) r → list_all is_some (c ∷ b) ≡ list_all is_some (drop k b) → Step c b r p t (spelled (content code) k)
  content_step c b r k code p t g z same full = content_by c b r k code p t z same full (begins c (b ++ r) p t g)

  pub white_stands : (c : ℕ) (a : List ℕ) (col : ℕ) → (is_break c || is_blank c) ≡ true → ((col == 0) && is_document_marker (c ∷ a)) ≡ false
  unfolding is_break is_blank
  white_stands c a col g = rw (no_marker c a (grind (arith, nat_tests)) (grind (arith, nat_tests))) (and_false (col == 0))

  pub blank_by : (c : ℕ) (b r : List ℕ) (p : Position) (t : Folded) → is_break c ≡ false → is_blank c ≡ true → (c == 0) ≡ false → Step c b r p t (spelled (blank c) 0)
  blank_by c b r p t f g nul = elim (cases_Bool (t.leading && (c == 9) && nat_lt (p.col + 1) ctx.indent)) [
    | inl e ↦ let low = (and_parts (t.leading && (c == 9)) (nat_lt (p.col + 1) ctx.indent) e).1 in is_shallow low (by_tab p low (rw (f, g, e) refl))
    | inr e ↦ steps gap (past p) tt in_gap (rw nul refl) (white_stands c (b ++ r) p.col (rw (f, g) refl)) (rw (same_break c, f, off_margin p.col 0) refl) (rw (f, g, e) refl)
  ]

  lone_break : (c : ℕ) (b r : List ℕ) (p : Position) (t : Folded) → is_break c ≡ true → (c == 0) ≡ false → ((c == 13) && (slice_index (b ++ r) 0 == 10)) ≡ false → Step c b r p t (spelled line_break 0)
  lone_break c b r p t e nul f =
      steps gap (past_break p) tt in_gap (rw nul refl) (white_stands c (b ++ r) p.col (rw e refl)) (rw (same_break c, e) refl) (rw (e, f) refl)

  two_breaks : (b r : List ℕ) (p : Position) (t : Folded) → Step 13 (10 ∷ b) r p t (spelled line_break 1)
  unfolding is_break is_blank classes.is_break
  two_breaks b r p t = steps gap (past_break (past p)) tt in_gap refl (white_stands 13 (10 ∷ (b ++ r)) p.col refl) (rw (feed_is_no_marker (b ++ r)) refl) refl

  pub break_step : (c : ℕ) (b r : List ℕ) (p : Position) (t : Folded) → (slice_index r 0 == 10) ≡ false → is_break c ≡ true → (c == 0) ≡ false → Step c b r p t (spelled line_break (break_further c b))
  break_step c [] r p t no_feed e nul = lone_break c [] r p t e nul (rw no_feed (and_false (c == 13)))
  break_step c (d ∷ b) r p t no_feed e nul = elim (cases_Bool ((c == 13) && (d == 10))) [
    | inl f ↦
        let both = and_parts (c == 13) (d == 10) f in
        rw (eqb-true c 13 both.0, eqb-true d 10 both.1) (two_breaks b r p t)
    | inr f ↦ rw f (lone_break c (d ∷ b) r p t e nul f)
  ]
