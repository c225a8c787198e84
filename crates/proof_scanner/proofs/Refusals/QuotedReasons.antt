-- Why the text after an opening quote is refused, told of the text from an element on.
use Rattle.proof_scanner.proofs.Common.{past, [], after_own, and_false, ap, append_assoc, arith, at_start, begins_further, begins_solid, begins_with, begun_with, blank, Bool, content, drop, Element, element_of, elements, escaped_break, false, further_lines_fit, has_more, is_document_marker, IsBadEscape, line_break, Lines, lines_fit, lines_of, LineStand, List, local, LocalOf, marked_from, nat_lt, nat_tests, not, past_element, past_elements, past_escaped, past_is, Position, position_after, position_append, Problem, refl, replicate, Some, Spelled, subst, suc, sym, take, take-append-drop, true, within, zero, ℕ, ◌&&◌, ◌++◌, ◌+◌, ◌==◌, ◌∙◌, ◌∷◌, ◌≡◌, eqb-true, or-false, after_chars, along, along_more, append-nil, break_further, digit_value, double_quoted_element, escape, escape_by, feed_is_no_marker, has_marker, hexadecimal, in_line_position, is_cr_lf, is_in_line, line_position, None, numeric_escape, Option, past_break, plain_element, position_past, same_blank, same_break, same_feed, single_quoted_element, ◌*◌, ◌≤◌, QuotedDocumentMarker, QuotedEnd, QuotedIndentation, TabAsIndentation, and_parts, drop-append-le, ends_before, inl, inr, length, length-take, Local, lookup, number_at, numbered, numeric_escapes, take-append-le, cases_Bool, ◌||◌, ◌⊎◌, EscapedCode, HexadecimalDigit, UnknownEscape, feed_past}
use Rattle.proof_scanner.proofs.Sound.QuotedBreaks.{Kind, has_content, has_blank, has_line, has_escaped, fits_from, lines_from, lines_here, empty_here, KindOf, kind, is_white}
use Rattle.proof_scanner.specs.NoPiece.{quote_of}
use Rattle.yaml_chars.specs.Class.{is_break, is_blank}
use Rattle.proof_lexers.proofs.Quoted.Turns.{spelled}
use Rattle.defs_text.specs.Classes as classes
use Rattle.proof_lexers.specs.QuotedEnds as bad

-- ---- content stands on one line

digits_in_line : (n value code : ℕ) (w : List ℕ) → hexadecimal value (take n w) ≡ Some code → is_in_line (take n w) ≡ true
unfolding classes.is_break
digits_in_line (suc n) value code (c ∷ w) h = grind (arith, digits_in_line n (value * 16 + digit_value c) code w)
digits_in_line a value code w h = grind arith

row_in_line : (d : ℕ) (b : List ℕ) (o n : Option ℕ) (code k : ℕ) → classes.is_break d ≡ false → escape_by o n b ≡ Some (spelled (content code) k) → is_in_line (92 ∷ take k (d ∷ b)) ≡ true
unfolding numeric_escape classes.is_break
row_in_line d b o n code k unbroken is = grind (arith, digits_in_line)

-- in double quotes no element begins with the quote
pub no_quote : (c : ℕ) (b : List ℕ) (s : Spelled) → double_quoted_element c b ≡ Some s → (c == 34) ≡ false
unfolding double_quoted_element
no_quote c b s h = grind arith

-- what begins with no blank and no break
pub solid_here : (c : ℕ) (r : List ℕ) → is_white c ≡ false → begins_solid (c ∷ r) ≡ true
solid_here c r h = grind (arith, same_blank, same_break)

-- ---- positions

pub past_line : (p : Position) (c : ℕ) (a : List ℕ) → is_break c ≡ true → is_cr_lf c a ≡ false → position_past p c a ≡ past_break p
past_line p c a h e = grind (arith, same_break, same_feed, line_position)

pub past_two : (p : Position) (a : List ℕ) → position_after p (13 ∷ 10 ∷ []) a ≡ past_break (past p)
unfolding is_break classes.is_break
past_two p a = grind (arith, in_line_position, feed_past)

-- a quote is no break
pub quote_no_break : (single : Bool) → is_break (quote_of single) ≡ false
unfolding is_break
quote_no_break a = grind arith

-- the position after an opening quote and some text
pub after_quote_at : (single : Bool) (p : Position) (body rest : List ℕ) → position_after p (quote_of single ∷ body) rest ≡ position_after (past p) body rest
after_quote_at single p body rest = ap (λ q. position_after q body rest) (past_is p (quote_of single) (body ++ rest) (quote_no_break single))

-- ---- breaks

-- after a break a line begins
pub break_column : (c : ℕ) (b : List ℕ) (p : Position) → is_break c ≡ true → (position_after p (c ∷ take (break_further c b) b) (drop (break_further c b) b)).col ≡ 0
break_column c b p e = grind (arith, past_line, past_two, and_false)

-- ---- document markers

-- none begins within a line
line_marks : (w body rest : List ℕ) → is_in_line w ≡ true → has_marker (w ++ body) rest ≡ has_marker body rest
line_marks [] body rest h = refl
line_marks (c ∷ w) body rest h = grind (arith, line_marks w body rest)

-- ---- an element

-- the position after it
abbrev pub after_it : (c : ℕ) (b : List ℕ) → Spelled → Position → Position
after_it c b e p = position_after p (c ∷ take e.further b) (drop e.further b)

pub kind_of : (single : Bool) (c : ℕ) (b : List ℕ) (e : Spelled) → element_of single c b ≡ Some e → Kind single c b e
kind_of single c b e is = subst (λ o. KindOf single c b o) is (kind single c b)

escape_in_line : (b : List ℕ) (code k : ℕ) → escape b ≡ Some (spelled (content code) k) → is_in_line (92 ∷ take k b) ≡ true
unfolding escape
escape_in_line b code k is = grind (arith, row_in_line)

-- content ends in its line
pub content_in_line : (single : Bool) (c : ℕ) (b : List ℕ) (code k : ℕ) → element_of single c b ≡ Some (spelled (content code) k) → is_in_line (c ∷ take k b) ≡ true
unfolding single_quoted_element double_quoted_element plain_element classes.is_break
content_in_line single c b code k is = grind (arith, nat_tests, eqb-true, escape_in_line)

pub content_after : (single : Bool) (c : ℕ) (b : List ℕ) (code k : ℕ) → element_of single c b ≡ Some (spelled (content code) k) → (p : Position) → after_it c b (spelled (content code) k) p ≡ along (c ∷ take k b) p
content_after single c b code k is p = ap (λ l. position_after p l (drop k b)) (sym (append-nil (c ∷ take k b))) ∙ after_chars (c ∷ take k b) [] (drop k b) p (content_in_line single c b code k is)

off_margin : (n m : ℕ) → n + 1 ≤ m → (m == 0) ≡ false
off_margin n m h = grind (arith, nat_tests, h)

at_margin : (x : Bool) (col : ℕ) (body rest : List ℕ) → col ≡ 0 → x ≡ marked_from 0 body rest → x ≡ marked_from col body rest
at_margin x col body rest h f = f ∙ ap (λ n. marked_from n body rest) (sym h)

-- Whether a marker begins a line of a text that begins with an element: one begins a line after it.
pub marks_after : (single : Bool) (c : ℕ) (b : List ℕ) (e : Spelled) → element_of single c b ≡ Some e → Kind single c b e → (p : Position) (body rest : List ℕ) → has_marker (c ∷ (take e.further b ++ body)) rest ≡ marked_from (after_it c b e p).col body rest
unfolding is_break classes.is_break
marks_after single c b e is (has_content code k solid) p body rest = grind (arith, nat_tests, eqb-true, content_after, line_marks (c ∷ take k b), content_in_line, off_margin, along_more)
marks_after single c b e is (has_blank f g) p body rest = grind (arith, nat_tests, same_break, past_is, p, off_margin, eqb-true)
marks_after single c b e is (has_line f) p body rest = at_margin _ _ body rest (break_column c b p f) (grind (arith, same_break, feed_is_no_marker, f))
marks_after single c b e is (has_escaped d a double same_c same_b f) p body rest = grind (arith, nat_tests, eqb-true, at_margin, break_column, past_is, same_break, feed_is_no_marker)

-- ---- indented lines, element by element

-- whether an element may stand in a column, in a line that began so
abbrev pub stands : (least : ℕ) → LineStand → (column : ℕ) → Element → Bool
stands least s k (blank c) = not (begins_further s false && (c == 9) && nat_lt k least)
stands least s k line_break = true
stands least s k e = not (begins_further s false && nat_lt k least)

-- the column after it, as far as it matters
abbrev pub column_past : ℕ → Element → ℕ
column_past k (content c) = k
column_past k (blank c) = suc k
column_past k line_break = 0
column_past k escaped_break = 0

abbrev pub all_stand : (least : ℕ) → LineStand → (column : ℕ) → List Element → Bool
all_stand least s k [] = true
all_stand least s k (e ∷ es) = stands least s k e && all_stand least (past_element s e) (column_past k e) es

-- the same of lines
abbrev fits_at : (least : ℕ) → LineStand → (column : ℕ) → List Element → Bool
fits_at least within k es = further_lines_fit least (lines_of es)
fits_at least at_start k es = lines_from k least false (lines_of es)
fits_at least past_escaped k es = lines_from k least true (lines_of es)

deep_is : (k least : ℕ) → fits_from k least true [] ≡ not (nat_lt k least)
deep_is k least = grind arith

blanks_are : (k least c : ℕ) (e : Bool) (ls : Lines) → lines_from k least e (begun_with (blank c) ls) ≡ (not ((c == 9) && nat_lt k least) && lines_from (suc k) least false ls)
blanks_are k least c e a =
    let blank_is : (k least c : ℕ) (holds : Bool) (bs : List ℕ) → fits_from k least holds (c ∷ bs) ≡ (not ((c == 9) && nat_lt k least) && fits_from (suc k) least holds bs) = λ k least c holds bs. grind arith in
    grind (arith, and_false, blank_is, lines_fit, has_more)

fits_past : (least : ℕ) (s : LineStand) (k : ℕ) (e : Element) (fs : List Element) → fits_at least s k (e ∷ fs) ≡ (stands least s k e && fits_at least (past_element s e) (column_past k e) fs)
fits_past least a k b fs = grind (arith, lines_here, and_false, blanks_are, lines_fit, empty_here, deep_is)

-- an indented line fits
spaces_fit : (n k least : ℕ) → least ≡ k + n → fits_at least at_start k (replicate n (blank 32)) ≡ true
spaces_fit zero k least e = deep_is k least ∙ grind (arith, nat_tests, e)
spaces_fit (suc n) k least e = fits_past least at_start k (blank 32) (replicate n (blank 32)) ∙ spaces_fit n (suc k) least (omega (arith, e))

-- The lines of elements are indented as far as they go, if each element may stand.
pub indented_are : (least : ℕ) (s : LineStand) (k : ℕ) (es : List Element) → fits_at least s k (es ++ line_break ∷ replicate least (blank 32)) ≡ all_stand least s k es
indented_are least s k [] = fits_past least s k line_break (replicate least (blank 32)) ∙ spaces_fit least 0 least (omega arith)
indented_are least s k (e ∷ es) = fits_past least s k e (es ++ line_break ∷ replicate least (blank 32)) ∙ ap (λ b. stands least s k e && b) (indented_are least (past_element s e) (column_past k e) es)

-- what may stand before a closing quote that begins a line, stands there too; after an escaped break the quote begins none
abbrev pub before_quote : LineStand → List Element
before_quote past_escaped = []
before_quote s = content 92 ∷ []

-- The lines of a whole body are indented just where each element may stand, and the closing quote.
pub lines_close : (least : ℕ) (s : LineStand) (k : ℕ) (es : List Element) → fits_at least s k es ≡ all_stand least s k (es ++ before_quote (past_elements s es))
lines_close least s k [] = grind (arith, deep_is, empty_here)
lines_close least s k (e ∷ es) = fits_past least s k e es ∙ ap (λ b. stands least s k e && b) (lines_close least (past_element s e) (column_past k e) es)

-- within a line the column does not matter
within_alike : (least k j : ℕ) (es : List Element) → all_stand least within k es ≡ all_stand least within j es
within_alike least k j (content c ∷ es) = within_alike least k j es
within_alike least k j (blank c ∷ es) = within_alike least (suc k) (suc j) es
within_alike least k j a = grind arith

-- ---- escapes that are none

-- what is wrong with one
abbrev code_problem : Option ℕ → Problem
code_problem None = HexadecimalDigit
code_problem (Some n) = EscapedCode

abbrev digits_problem : Option ℕ → List ℕ → Problem
digits_problem None r = UnknownEscape
digits_problem (Some n) r = code_problem (number_at n r)

abbrev escape_problem : List ℕ → Problem
escape_problem [] = UnknownEscape
escape_problem (c ∷ r) = digits_problem (lookup c numeric_escapes) r

bad_is : (r : List ℕ) (why : Problem) → IsBadEscape r why → escape_problem r ≡ why
bad_is r why bad.ends = refl
bad_is r why (bad.unknown c s i j k) = rw k refl
bad_is r why (bad.no_digit c digits s i j k) = rw (j, k) refl
bad_is r why (bad.no_character c digits code s i j k l) = rw (j, k) refl

no_break : (c n : ℕ) → lookup c numeric_escapes ≡ Some n → classes.is_break c ≡ false
unfolding classes.is_break
no_break c n h = grind arith

bad_none : (r : List ℕ) (why : Problem) → IsBadEscape r why → escape r ≡ None
unfolding escape numeric_escape
bad_none r why bad.ends = refl
bad_none r why (bad.unknown c s i j k) = rw (i, j, k) refl
bad_none r why (bad.no_digit c digits s i j k) = let n = no_break c digits j in rw (n, i, j) ((grind arith) ∙ ap (λ o. numbered digits o) k)
bad_none r why (bad.no_character c digits code s i j k l) = let n = no_break c digits j in rw (n, i, j) ((grind arith) ∙ (ap (λ o. numbered digits o) k ∙ rw l refl))

none_here : (single : Bool) (r : List ℕ) (why : Problem) → single ≡ false → IsBadEscape r why → element_of single 92 r ≡ None
unfolding double_quoted_element classes.is_nul
none_here single r why e b = grind (arith, bad_none)

-- ---- reasons

-- whether a document marker begins a line at a place
abbrev pub is_marked : Position → List ℕ → Bool
is_marked p text = (p.col == 0) && is_document_marker text

module _ (single : Bool) (least : ℕ) (start : Position) where
  -- What is wrong at a place, but for a document marker: the text ends; an escape is none; a further line begins left of the column; or a TAB stands there.
  abbrev pub Place : LineStand → Position → List ℕ → Problem → Position → Type 0
  Place s p text why at =
      ((text ≡ []) × (why ≡ QuotedEnd) × (at ≡ start)) ⊎
      (((next : List ℕ) × (single ≡ false) × (text ≡ 92 ∷ next) × IsBadEscape next why × (all_stand least s p.col (content 92 ∷ []) ≡ true) × (element_of single 92 next ≡ None) × (why ≡ escape_problem next) × (at ≡ start)) ⊎
      (((begins_solid text ≡ true) × (begins_further s (begins_with (quote_of single) text) ≡ true) × (nat_lt p.col least ≡ true) × (why ≡ QuotedIndentation) × (at ≡ start)) ⊎
      ((next : List ℕ) × (text ≡ 9 ∷ next) × (begins_further s false ≡ true) × (nat_lt p.col least ≡ true) × (why ≡ TabAsIndentation) × (at ≡ p))))

  pub by_escape : (s : LineStand) (p : Position) (next : List ℕ) (why : Problem) → single ≡ false → IsBadEscape next why → all_stand least s p.col (content 92 ∷ []) ≡ true → Place s p (92 ∷ next) why start
  by_escape s p next why double bad may = inr (inl (next, double, refl, bad, may, none_here single next why double bad, sym (bad_is next why bad), refl))

  -- the same, or a marker
  abbrev pub Wrong : LineStand → Position → List ℕ → Problem → Position → Type 0
  Wrong s p text why at = ((is_marked p text ≡ true) × (why ≡ QuotedDocumentMarker) × (at ≡ start)) ⊎ ((is_marked p text ≡ false) × Place s p text why at)

  -- The closing quote stands at a place, and may stand there; the text and the position after it.
  pub record Closes (s : LineStand) (p : Position) (text rest : List ℕ) (end : Position) : Type 0 where
    pub is_quote : text ≡ quote_of single ∷ rest
    pub fit : all_stand least s p.col (before_quote s) ≡ true
    pub end_is : end ≡ past p

  -- Elements that may stand, and no marker before them, lead to a place at which this holds.
  pub data Walk (E : LineStand → Position → List ℕ → Type 0) : LineStand → Position → List ℕ → Type 0 where
    arrived : {s : LineStand} {p : Position} {text : List ℕ} → E s p text → Walk E s p text
    stepped : {s : LineStand} {p : Position} (c : ℕ) (b : List ℕ) (e : Spelled) (is : element_of single c b ≡ Some e) → stands least s p.col e.element ≡ true → is_marked p (c ∷ b) ≡ false → Walk E (past_element s e.element) (after_it c b e p) (drop e.further b) → Walk E s p (c ∷ b)

  -- what is wrong with a text first, and where a scalar ends
  abbrev pub Reason : LineStand → Position → List ℕ → Problem → Position → Type 0
  Reason s p text why at = Walk (λ t q x. Wrong t q x why at) s p text

  abbrev pub Closed : LineStand → Position → (text rest : List ℕ) (end : Position) → Type 0
  Closed s p text rest end = Walk (λ t q x. Closes t q x rest end) s p text

  -- The same told of the text: a body before the place, its elements, and what may stand after them.
  pub record Parted (E : LineStand → Position → List ℕ → Type 0) (s : LineStand) (p : Position) (text : List ℕ) : Type 0 where
    pub body : List ℕ
    pub rest : List ℕ
    pub es : List Element
    pub is_text : text ≡ body ++ rest
    pub are : elements (element_of single) 0 body ≡ Some es
    pub fits : (last : List Element) → all_stand least (past_elements s es) (position_after p body rest).col last ≡ true → all_stand least s p.col (es ++ last) ≡ true
    pub marks : marked_from p.col body rest ≡ is_marked (position_after p body rest) rest
    pub holds : E (past_elements s es) (position_after p body rest) rest

  -- ---- an element before

  -- the column after an element is that of its position, where it matters
  columns_are : (c : ℕ) (b : List ℕ) (e : Spelled) → Kind single c b e → (s : LineStand) (p : Position) (fs : List Element) → all_stand least (past_element s e.element) (column_past p.col e.element) fs ≡ all_stand least (past_element s e.element) (after_it c b e p).col fs
  unfolding is_break
  columns_are c b e (has_content code k solid) s p fs = within_alike least _ _ fs
  columns_are c b e (has_blank f g) s p fs = grind (arith, nat_tests, eqb-true, blank, past_is)
  columns_are c b e (has_line f) s p fs = ap (λ k. all_stand least at_start k fs) (sym (break_column c b p f))
  columns_are c b e (has_escaped d a double same_c same_b f) s p fs = ap (λ k. all_stand least past_escaped k fs) (sym (grind (arith, break_column, past_is, same_c, same_b, f)))

  module _ (c : ℕ) (b : List ℕ) (e : Spelled) where
    abbrev before : List ℕ → List ℕ
    before body = c ∷ (take e.further b ++ body)

    cut : (body rest : List ℕ) → drop e.further b ≡ body ++ rest → c ∷ b ≡ before body ++ rest
    cut body rest h = ap (λ x. c ∷ x) (sym (take-append-drop e.further b) ∙ ap (λ x. take e.further b ++ x) h ∙ sym (append_assoc (take e.further b) body rest))

    more : element_of single c b ≡ Some e → (body rest : List ℕ) (es : List Element) → drop e.further b ≡ body ++ rest → elements (element_of single) 0 body ≡ Some es → elements (element_of single) 0 (before body) ≡ Some (e.element ∷ es)
    more is body rest es h i = grind (arith, nat_tests, eqb-true, (subst (λ o. LocalOf (element_of single c) b o) is (local single c b)), after_own)

    place : (p : Position) (body rest : List ℕ) → drop e.further b ≡ body ++ rest → position_after p (before body) rest ≡ position_after (after_it c b e p) body rest
    place p body rest h = position_append p (c ∷ take e.further b) body rest ∙ ap (λ x. position_after (position_after p (c ∷ take e.further b) x) body rest) (sym h)

    marks_grown : element_of single c b ≡ Some e → (p : Position) → is_marked p (c ∷ b) ≡ false → (body rest : List ℕ) → drop e.further b ≡ body ++ rest → marked_from p.col (before body) rest ≡ marked_from (after_it c b e p).col body rest
    marks_grown is p none body rest h = let kind = kind_of single c b e is in grind (arith, cut, none, marks_after, kind)

  pub parted : (E : LineStand → Position → List ℕ → Type 0) (s : LineStand) (p : Position) (text : List ℕ) → Walk E s p text → Parted E s p text
  parted E s p text (arrived x) = record { body = []; rest = text; es = []; is_text = refl; are = refl; fits = λ last h. h; marks = or-false (is_marked p text); holds = x }
  parted E s p text (stepped c b e is fit none w) =
      let x : Parted E (past_element s e.element) (after_it c b e p) (drop e.further b) = parted E _ _ _ w in
      let end : position_after p (before c b e x.body) x.rest ≡ position_after (after_it c b e p) x.body x.rest = place c b e p x.body x.rest x.is_text in
      record {
        body = before c b e x.body;
        rest = x.rest;
        es = e.element ∷ x.es;
        is_text = cut c b e x.body x.rest x.is_text;
        are = more c b e is x.body x.rest x.es x.is_text x.are;
        fits = λ last h. rw fit (columns_are c b e (kind_of single c b e is) s p (x.es ++ last) ∙ x.fits last (ap (λ (q : Position). all_stand least (past_elements (past_element s e.element) x.es) q.col last) (sym end) ∙ h));
        marks = marks_grown c b e is p none x.body x.rest x.is_text ∙ (x.marks ∙ ap (λ q. is_marked q x.rest) (sym end));
        holds = rw end x.holds;
      }

  -- A body whose elements may stand, with others after them, is walked along, up to its first marker or to its end.
  pub walk_of : (G : LineStand → Position → List ℕ → Type 0) (last : List Element) (k : Bool) (r : List ℕ) → begins_with 10 r ≡ false → ((t : LineStand) (q : Position) (x : List ℕ) → is_marked q x ≡ true → k ≡ true → G t q x)
      → (n : ℕ) (a : List ℕ) (es : List Element) (s : LineStand) (p : Position) → n ≤ length a → elements (element_of single) n a ≡ Some es → all_stand least s p.col (es ++ last) ≡ true → marked_from p.col (drop n a) r ≡ k
      → (all_stand least (past_elements s es) (position_after p (drop n a) r).col last ≡ true → is_marked (position_after p (drop n a) r) r ≡ false → k ≡ false → G (past_elements s es) (position_after p (drop n a) r) r) → Walk G s p (drop n a ++ r)
  walk_of G last k r no_feed marker (suc n) [] es s p l h fit m end = absurd (omega (arith, l))
  walk_of G last k r no_feed marker (suc n) (c ∷ a) es s p l h fit m end = walk_of G last k r no_feed marker n a es s p (omega (arith, l)) h fit m end
  walk_of G last k r no_feed marker zero [] es s p l h fit m end =
      let none : [] ≡ es = cc h in
      let own : is_marked p r ≡ k = sym (or-false (is_marked p r)) ∙ m in
      elim (cases_Bool (is_marked p r)) [
        | inl g ↦ arrived (marker s p r g (sym own ∙ g))
        | inr g ↦
            arrived (subst (λ x. (all_stand least (past_elements s x) p.col last ≡ true → is_marked p r ≡ false → k ≡ false → G (past_elements s x) p r) → all_stand least s p.col (x ++ last) ≡ true → G s p r) none (λ f x. f x g (sym own ∙ g)) end fit)
      ]
  walk_of G last k r no_feed marker zero (c ∷ b) es s p l h fit m end =
      -- the elements of a body begin with one
      let f : (x : Spelled) × (element_of single c b ≡ Some x) × (others : List Element) × (elements (element_of single) x.further b ≡ Some others) × (es ≡ x.element ∷ others) = grind arith in
      let e : Spelled = f.0 in
      -- its characters are there
      let own : Local (element_of single c) b e = subst (λ o. LocalOf (element_of single c) b o) f.1 (local single c b) in
      let fits : e.further ≤ length b = let k = own.fits in omega (arith, k, length-take e.further b) in
      let is : element_of single c (b ++ r) ≡ Some e = own.onward r no_feed in
      let q : Position = after_it c (b ++ r) e p in
      let rest : drop e.further (b ++ r) ≡ drop e.further b ++ r = drop-append-le e.further b r fits in
      let whole : take e.further (b ++ r) ++ drop e.further b ≡ b = ap (λ x. x ++ drop e.further b) (take-append-le e.further b r fits) ∙ take-append-drop e.further b in
      let at : position_after p (c ∷ b) r ≡ position_after q (drop e.further b) r = ap (λ x. position_after p (c ∷ x) r) (sym whole) ∙ place c (b ++ r) e p (drop e.further b) r rest in
      let parts = and_parts (stands least s p.col e.element) (all_stand least (past_element s e.element) (column_past p.col e.element) (f.2 ++ last)) (ap (λ x. all_stand least s p.col (x ++ last)) (sym f.4) ∙ fit) in
      let End : List Element → Position → Type 0 = λ x z. all_stand least (past_elements s x) z.col last ≡ true → is_marked z r ≡ false → k ≡ false → G (past_elements s x) z r in
      let later : End (e.element ∷ f.2) (position_after q (drop e.further b) r) = subst (λ z. End (e.element ∷ f.2) z) at (subst (λ x. End x (position_after p (c ∷ b) r)) f.4 end) in
      elim (cases_Bool (is_marked p (c ∷ (b ++ r)))) [
        | inl g ↦ arrived (marker s p (c ∷ (b ++ r)) g (sym m ∙ ap (λ x. x || has_marker (c ∷ b) r) g))
        | inr g ↦
            let marks : marked_from q.col (drop e.further b) r ≡ k = sym (marks_after single c (b ++ r) e is (kind_of single c (b ++ r) e is) p (drop e.further b) r) ∙ (ap (λ x. has_marker (c ∷ x) r) whole ∙ (sym (ap (λ x. x || has_marker (c ∷ b) r) g) ∙ m)) in
            stepped c (b ++ r) e is parts.0 g (subst (λ x. Walk G (past_element s e.element) q x) (sym rest)
            (walk_of G last k r no_feed marker e.further b f.2 (past_element s e.element) q fits f.3 (sym (columns_are c (b ++ r) e (kind_of single c (b ++ r) e is) s p (f.2 ++ last)) ∙ parts.1) marks later))
      ]

  -- ---- two walks from one place

  -- Where this holds no element begins that may stand.
  abbrev Stops : (LineStand → Position → List ℕ → Type 0) → Type 0
  Stops E = (s : LineStand) (p : Position) (c : ℕ) (b : List ℕ) (e : Spelled) → element_of single c b ≡ Some e → stands least s p.col e.element ≡ true → is_marked p (c ∷ b) ≡ false → E s p (c ∷ b) → ⊥

  -- two walks that stop come to one place
  meets : (E F : LineStand → Position → List ℕ → Type 0) (R : Type 0) → Stops E → Stops F → ((s : LineStand) (p : Position) (text : List ℕ) → E s p text → F s p text → R)
      → (s : LineStand) (p : Position) (text : List ℕ) → Walk E s p text → Walk F s p text → R
  meets E F R e f both s p text (arrived x) (arrived y) = both s p text x y
  meets E F R e f both s p text (arrived x) (stepped c b v is fit none w) = absurd (e s p c b v is fit none x)
  meets E F R e f both s p text (stepped c b v is fit none w) (arrived y) = absurd (f s p c b v is fit none y)
  meets E F R e f both s p text (stepped c b v is fit none w) (stepped _ _ u also other free z) =
      let same : u ≡ v = cc (is, also) in
      meets E F R e f both _ _ _ w (subst (λ x. Walk F (past_element s x.element) (position_after p (c ∷ take x.further b) (drop x.further b)) (drop x.further b)) same z)

  wrong_stops : (why : Problem) (at : Position) → Stops (λ t q x. Wrong t q x why at)
  unfolding is_blank is_break
  wrong_stops why at s p c b e is fit none x = by e is fit (kind_of single c b e is) x
    where
      by : (e : Spelled) → element_of single c b ≡ Some e → stands least s p.col e.element ≡ true → Kind single c b e → Wrong s p (c ∷ b) why at → ⊥
      by e is fit (has_content code k solid) x = grind (arith, nat_tests, eqb-true, none)
      by e is fit (has_blank f g) x = grind (arith, nat_tests, eqb-true, none, same_blank, same_break)
      by e is fit (has_line f) x = grind (arith, nat_tests, eqb-true, none, same_blank, same_break)
      by e is fit (has_escaped d a double same_c same_b f) x = grind (arith, nat_tests, none)

  one_wrong : (why1 why2 : Problem) (at1 at2 : Position) (s : LineStand) (p : Position) (text : List ℕ) → Wrong s p text why1 at1 → Wrong s p text why2 at2 → (why1 ≡ why2) × (at1 ≡ at2)
  unfolding classes.is_blank classes.is_break
  one_wrong why1 why2 at1 at2 a p text x y = grind (arith, nat_tests)

  -- What is wrong first with a text is one thing at one position.
  pub one_reason : (s : LineStand) (p : Position) (text : List ℕ) (why1 why2 : Problem) (at1 at2 : Position) → Reason s p text why1 at1 → Reason s p text why2 at2 → (why1 ≡ why2) × (at1 ≡ at2)
  one_reason s p text why1 why2 at1 at2 = meets _ _ _ (wrong_stops why1 at1) (wrong_stops why2 at2) (one_wrong why1 why2 at1 at2) s p text

  -- A marker begins a line here, or the closing quote stands here and may.
  abbrev Ends : List ℕ → LineStand → Position → List ℕ → Type 0
  Ends next s p text = (is_marked p text ≡ true) ⊎ Closes s p text next (past p)

  ends_stop : (next : List ℕ) → ends_before single next ≡ true → Stops (Ends next)
  unfolding single_quoted_element double_quoted_element classes.is_nul
  ends_stop next ends s p c b e is fit none x = grind (arith, nat_tests, eqb-true, ends_before)

  no_end : (next : List ℕ) (why : Problem) (at : Position) → (why ≡ QuotedDocumentMarker → ⊥) → (s : LineStand) (p : Position) (text : List ℕ) → Wrong s p text why at → Ends next s p text → ⊥
  no_end next why at unlike a p text x y = grind (arith, nat_tests)

  -- Nothing but a marker is wrong where a body stands whose lines are indented, and its closing quote.
  pub not_closed : (s : LineStand) (p : Position) (body next : List ℕ) (es : List Element) → ends_before single next ≡ true → elements (element_of single) 0 body ≡ Some es → all_stand least s p.col (es ++ before_quote (past_elements s es)) ≡ true
      → (why : Problem) (at : Position) → (why ≡ QuotedDocumentMarker → ⊥) → Reason s p (body ++ quote_of single ∷ next) why at → ⊥
  not_closed s p body next es ends are fits why at unlike x =
      meets _ (Ends next) ⊥ (wrong_stops why at) (ends_stop next ends) (no_end next why at unlike) s p _ x
      (walk_of (Ends next) (before_quote (past_elements s es)) (marked_from p.col body (quote_of single ∷ next)) (quote_of single ∷ next) (grind arith) (λ t q y h i. inl h) 0 body es s p (omega arith) are fits refl
      (λ fit free k. inr (record { is_quote = refl; fit = fit; end_is = refl })))
