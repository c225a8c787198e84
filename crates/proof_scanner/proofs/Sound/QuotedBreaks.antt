-- The elements of a quoted body by their characters, and the lines that are left of one from a column on.
use Rattle.std.proofs.Math.Seq.{take-nil}
use Rattle.proof_scanner.proofs.Common.{sym, ◌∙◌, Bool, Element, Lines, List, None, Option, Some, Spelled, [], ap, arith, begins_with, blank, blanks_before, break_further, content, double_quoted_element, double_quoted_value, element_of, elements, eqb-true, escape, escape_by, escaped_break, escapes, false, folded_elements, has_more, has_tab_within, if◌then◌else◌, is_empty, length, line, line_break, lines_fit, lookup, nat_le, nat_lt, not, numeric_escape, numeric_escapes, plain_element, quote_of, refl, same_blank, same_break, single_quoted_element, single_quoted_value, suc, true, value_of, without_last, ℕ, ◌&&◌, ◌++◌, ◌+◌, ◌-◌, ◌==◌, ◌||◌, ◌∷◌, ◌≡◌}
use Rattle.defs_text.specs.Classes as classes
use Rattle.defs_text.specs.FlowScalar.{last_line}
use Rattle.yaml_chars.specs.Class.{is_break, is_blank}
use Rattle.proof_lexers.proofs.Quoted.Turns.{spelled}

-- ---- elements by their characters

-- whether a character is a blank or a break
abbrev pub is_white : ℕ → Bool
is_white c = is_break c || is_blank c

-- What an element of a quoted body is, by the characters that it begins with.
pub data Kind (single : Bool) (c : ℕ) (b : List ℕ) : Spelled → Type 0 where
  has_content : (code k : ℕ) → is_white c ≡ false → Kind single c b (spelled (content code) k)
  has_blank : is_break c ≡ false → is_blank c ≡ true → Kind single c b (spelled (blank c) 0)
  has_line : is_break c ≡ true → Kind single c b (spelled line_break (break_further c b))
  has_escaped : (d : ℕ) (a : List ℕ) → single ≡ false → c ≡ 92 → b ≡ d ∷ a → is_break d ≡ true → Kind single c b (spelled escaped_break (suc (break_further d a)))

abbrev pub KindOf : (single : Bool) → ℕ → List ℕ → Option Spelled → Type 0
KindOf single c b None = Unit {0}
KindOf single c b (Some s) = Kind single c b s

-- either way of a choice
kind_if : (single : Bool) (c : ℕ) (b : List ℕ) (x : Bool) (o p : Option Spelled) → (x ≡ true → KindOf single c b o) → (x ≡ false → KindOf single c b p) → KindOf single c b (if x then o else p)
kind_if single c b a o p f g = grind arith

plain_kind : (single : Bool) (c : ℕ) (b : List ℕ) → KindOf single c b (plain_element c b)
unfolding plain_element
plain_kind single c b = grind (arith, kind_if, has_line, same_break, has_blank, same_blank, has_content)

pub quote_white : (single : Bool) → is_white (quote_of single) ≡ false
unfolding is_break is_blank
quote_white a = grind arith

pub slash_white : is_white 92 ≡ false
unfolding is_break is_blank
slash_white = refl

single_kind : (c : ℕ) (b : List ℕ) → KindOf true c b (single_quoted_element c b)
unfolding single_quoted_element
single_kind c b = kind_if true c b (classes.is_nul c) _ _ (λ e. tt) (λ e. kind_if true c b (c == 39) _ _ (λ f.
    kind_if true c b (begins_with 39 b) _ _ (λ g. has_content 39 1 (let same : c ≡ 39 = eqb-true c 39 f in rw same (quote_white true))) (λ g. tt)) (λ f. plain_kind true c b))

module _ (c : ℕ) (b : List ℕ) (solid : is_white c ≡ false) where
  escape_kind_by : (o n : Option ℕ) (r : List ℕ) → KindOf false c b (escape_by o n r)
  unfolding numeric_escape
  escape_kind_by a n r = grind (arith, has_content)

escape_kind : (b : List ℕ) → KindOf false 92 b (escape b)
unfolding escape
escape_kind [] = tt
escape_kind (d ∷ a) = kind_if false 92 (d ∷ a) (classes.is_break d) _ _ (λ e. has_escaped d a refl refl refl (sym (same_break d) ∙ e)) (λ e. escape_kind_by 92 (d ∷ a) slash_white (lookup d escapes) (lookup d numeric_escapes) a)

double_kind : (c : ℕ) (b : List ℕ) → KindOf false c b (double_quoted_element c b)
unfolding double_quoted_element
double_kind c b = kind_if false c b (classes.is_nul c) _ _ (λ e. tt) (λ e. kind_if false c b (c == 34) _ _ (λ f. tt) (λ f.
    kind_if false c b (c == 92) _ _ (λ g. let same : c ≡ 92 = eqb-true c 92 g in rw same (escape_kind b)) (λ g. plain_kind false c b)))

pub kind : (single : Bool) (c : ℕ) (b : List ℕ) → KindOf single c b (element_of single c b)
kind a c b = grind (arith, single_kind, double_kind)

-- ---- a line from a column on

-- whether what is left of a line from a column on, with blanks alone before it, lets the line be indented
abbrev pub fits_from : (at column : ℕ) → (holds : Bool) → (blanks : List ℕ) → Bool
fits_from k column holds bs = not (has_tab_within (column - k) bs) && (not holds || nat_le column (k + length bs))

abbrev pub lines_from : (at column : ℕ) → (after_escaped : Bool) → Lines → Bool
lines_from k column e (last_line l) = fits_from k column (not (e && is_empty l)) (blanks_before l)
lines_from k column e (line l escaped ls) = fits_from k column (has_more l || escaped) (blanks_before l) && lines_fit column escaped ls

pub lines_here : (column : ℕ) (e : Bool) (ls : Lines) → lines_from 0 column e ls ≡ lines_fit column e ls
lines_here column e a = grind arith

pub empty_here : (k column : ℕ) → fits_from k column false [] ≡ true
empty_here k column = rw (take-nil (column - k)) refl

-- ---- a body

pub body_between : (q : ℕ) (body : List ℕ) → without_last (body ++ q ∷ []) ≡ body
body_between q (c ∷ d ∷ body) = ap (λ l. c ∷ l) (body_between q (d ∷ body))
body_between q body = grind arith

-- a body with a value has elements
pub has_elements : (single : Bool) (body value : List ℕ) → value_of single body ≡ Some value → (es : List Element) × (elements (element_of single) 0 body ≡ Some es)
unfolding single_quoted_value double_quoted_value
has_elements single body value h = by (elements (element_of single) 0 body) refl (grind (arith, body, elements))
  where
    by : (o : Option (List Element)) → elements (element_of single) 0 body ≡ o → folded_elements o ≡ Some value → (es : List Element) × (o ≡ Some es)
    by a e h = grind arith

pub same_limit : (k indent : ℕ) → nat_lt (k + 1) indent ≡ nat_lt k (indent - 1)
same_limit k indent = grind arith
