-- What the scan of a tag reads is its piece.
use Rattle.proof_scanner.proofs.Common.{[], after, all_leading, ap, begins_with_mark, Bool, codes, eqb-true, false, has_no_break, is_alpha, is_break, is_decimal_digit, is_letter, is_same, is_tag, is_uri, leading, List, Ok, Position, position_in_line, Read, read_as, refl, shorthand, Some, span_cut, sym, Tag, tag_of_class, TagIsRead, tags_end, Tok, true, verbatim, whole_tag, written_tag, ℕ, ◌++◌, ◌∙◌, ◌∷◌, ◌≡◌, arith, nat_tests}
use Rattle.defs_text.specs.Tags.{named}
use Rattle.model_scanner.specs.Tag as models
use Rattle.proof_scanner.proofs.Cut.Pieces.Separations.{no_break_append}
use Rattle.proof_scanner.proofs.Cut.Pieces.Names.{all_in_line, IsProperty, property_read_as}

-- ---- no break stands in a tag

-- a class without the two breaks
pub without_breaks : (class : ℕ → Bool) → class 10 ≡ false → class 13 ≡ false → (c : ℕ) → class c ≡ true → is_break c ≡ false
unfolding is_break
without_breaks class lf cr c h = grind (arith, nat_tests)

-- what stands before in the line, and what stands after it
spanned : (class : ℕ → Bool) → ((c : ℕ) → class c ≡ true → is_break c ≡ false) → (t : List ℕ) → has_no_break (after class t) ≡ true → has_no_break t ≡ true
spanned class none t h = rw (span_cut class t) (no_break_append (leading class t) (after class t) (all_in_line class none (leading class t) (all_leading class t)) h)

of_class : (class : ℕ → Bool) → ((c : ℕ) → class c ≡ true → is_break c ≡ false) → (handle t : List ℕ) (g : Tag) → tag_of_class class handle t ≡ Some g → has_no_break t ≡ true
of_class class none handle t g h = grind (arith, all_in_line)

closed_in_line : (t : List ℕ) → is_same t (codes ">") ≡ true → has_no_break t ≡ true
unfolding is_break
closed_in_line (c ∷ []) h = grind arith
closed_in_line t h = grind arith

verbatim_in_line : (t : List ℕ) (g : Tag) → verbatim t ≡ Some g → has_no_break t ≡ true
unfolding is_uri is_decimal_digit is_letter
verbatim_in_line t g h = grind (arith, spanned is_uri (λ c e. without_breaks is_uri refl refl c e) t, closed_in_line (after is_uri t))

named_in_line : (name from : List ℕ) (g : Tag) → begins_with_mark from ≡ true → named name from ≡ Some g → has_no_break from ≡ true
unfolding is_break is_tag is_uri is_decimal_digit is_letter
named_in_line name (c ∷ d ∷ suffix) g m h = grind (arith, eqb-true, of_class is_tag (λ e f. without_breaks is_tag refl refl e f) (codes "!" ++ name ++ codes "!") (d ∷ suffix) g)
named_in_line name from g m h = grind arith

shorthand_in_line : (t : List ℕ) (g : Tag) → shorthand t ≡ Some g → has_no_break t ≡ true
unfolding is_alpha is_tag is_uri is_decimal_digit is_letter
shorthand_in_line [] g h = refl
shorthand_in_line (c ∷ t) g h =
    grind (arith, spanned is_alpha (λ d e. without_breaks is_alpha refl refl d e) (c ∷ t), named_in_line (leading is_alpha (c ∷ t)) (after is_alpha (c ∷ t)) g, of_class is_tag (λ e f. without_breaks is_tag refl refl e f) (codes "!") (c ∷ t) g)

pub written_in_line : (t : List ℕ) (g : Tag) → written_tag (33 ∷ t) ≡ Some g → has_no_break (33 ∷ t) ≡ true
unfolding is_break
written_in_line [] g h = refl
written_in_line (c ∷ t) g h = grind (arith, eqb-true, verbatim_in_line t g, shorthand_in_line (c ∷ t) g)

-- ---- the piece

pub tag_property : (fl : Bool) (p : Position) (text more : List ℕ) → text ≡ 33 ∷ more → (x : Read models.Tag) → models.tag fl text p ≡ Ok x → IsProperty fl (Tok.tag x.value.handle x.value.suffix) p text x.rest x.position
tag_property fl p text more e x k = elim (read_as (ap (λ r. models.tag fl r p) (sym e) ∙ k) (tags_end fl more p)) as (λ y w. IsProperty fl (Tok.tag y.value.handle y.value.suffix) p text y.rest y.position) [
  | whole_tag piece rest handle suffix cut is follows ↦ let line : has_no_break (33 ∷ piece) ≡ true = written_in_line piece (record { handle = handle; suffix = suffix }) is in grind (arith, line, position_in_line)
]

-- a tag that was read is the piece of its token
pub tag_is_read : TagIsRead
tag_is_read a in_flow more r nul flows e = property_read_as a in_flow (Tok.tag r.value.handle r.value.suffix) (33 ∷ more) r.rest r.position flows (tag_property in_flow a.position (33 ∷ more) more refl r e)
