-- The buffers after a plain scalar have its value, and no line of it begins with a document marker.
use Rattle.proof_lexers.proofs.Common.{[], after_element, after_elements, and_parts, ap, append-nil, are_marks, arith, begins_with_marker, blank, Bool, break_further, cases_Bool, content, drop, Element, elements, ends_with_content, eqb-true, false, Folded, goes_on, has_document_marker, if◌then◌else◌, inl, inr, is_before_line_feed, is_blank_or_end, joined, line_break, List, nat_tests, nothing, on_line, Option, or-true, plain_element, plain_value, refl, Some, Stand, suc, sym, true, with_break, zero, ℕ, ◌∙◌, ◌∷◌, ◌≡◌}
use Rattle.defs_text.specs.Classes.{is_blank, is_break}
use Rattle.defs_token.specs.Plain.{past}
use Rattle.proof_lexers.proofs.Fold.{buffers_join}
use Rattle.proof_lexers.proofs.Plain.Turns.{after_char, after_text}

-- ---- elements

-- the elements of a text after so many characters, and that the buffers take them as they take the text
record Elements (n : ℕ) (a : List ℕ) : Type 0 where
  all : List Element
  are : elements plain_element n a ≡ Some all
  same : (t : Folded) → after_elements all t ≡ after_text (drop n a) t

one_more : (c : ℕ) (a : List ℕ) (e : Element) (k : ℕ) → plain_element c a ≡ Some (record { element = e; further = k }) → ((t : Folded) → after_text (drop k a) (after_element e t) ≡ after_text (c ∷ a) t) → Elements k a → Elements 0 (c ∷ a)
one_more c a e k is same z = record { all = e ∷ z.all; are = rw (is, z.are) refl; same = λ t. z.same (after_element e t) ∙ same t }

feed_text : (b : List ℕ) (t : Folded) → after_text b (with_break t) ≡ after_text (10 ∷ b) t
unfolding is_break
feed_text a t = grind arith

broken : (c : ℕ) (a : List ℕ) → is_break c ≡ true → (feed : Bool) → is_before_line_feed c a ≡ feed → (t : Folded) → after_text (drop (if feed then 1 else 0) a) (with_break t) ≡ after_text (c ∷ a) t
broken c a e b f t = grind (arith, eqb-true, feed_text)

first_element : (c : ℕ) (a : List ℕ) → ((k : ℕ) → Elements k a) → Elements 0 (c ∷ a)
unfolding plain_element
first_element c a others = elim (cases_Bool (is_break c)) [
  | inl e ↦ one_more c a line_break (break_further c a) (rw e refl) (broken c a e (is_before_line_feed c a) refl) (others (break_further c a))
  | inr e ↦ elim (cases_Bool (is_blank c)) [ inl f ↦ one_more c a (blank c) 0 (rw (e, f) refl) (λ t. rw (e, f) refl) (others 0) | inr f ↦ one_more c a (content c) 0 (rw (e, f) refl) (λ t. rw (e, f) refl) (others 0) ]
]

elements_of : (n : ℕ) (a : List ℕ) → Elements n a
elements_of (suc n) (c ∷ a) = let z = elements_of n a in record { all = z.all; are = z.are; same = z.same }
elements_of zero (c ∷ a) = first_element c a (λ k. elements_of k a)
elements_of n a = record { all = []; are = refl; same = λ t. refl }

-- after content
joined_solid : (c : ℕ) (r : List ℕ) (t : Folded) → ends_with_content c r ≡ true → (joined (after_text (c ∷ r) t)).text ≡ (after_text (c ∷ r) t).text
joined_solid c [] t h = grind (arith, append-nil)
joined_solid c (d ∷ r) t h = joined_solid d r (after_char c (d ∷ r) t) h

-- ---- document markers

-- over a line that begins with a marker no scalar goes on
no_marker_on : (flow : Bool) (collection : Option ℕ) (a next : List ℕ) → begins_with_marker a ≡ true → goes_on flow collection (on_line 0) a next ≡ true → ⊥
unfolding begins_with_marker is_blank_or_end are_marks is_blank is_break
no_marker_on flow collection (a ∷ b ∷ c ∷ d ∷ r) next h e = grind (arith, nat_tests, and_parts, on_line, or-true)
no_marker_on flow collection _ next h e = cc

pub no_markers : (flow : Bool) (collection : Option ℕ) (s : Stand) (more next : List ℕ) → goes_on flow collection s more next ≡ true → has_document_marker more ≡ false
no_markers flow collection s [] next h = refl
no_markers flow collection s (c ∷ r) next h =
    grind (arith, nat_tests, goes_on, no_marker_on, no_markers flow collection (past s c) r next)

-- the value
pub value_is : (c : ℕ) (r : List ℕ) → has_document_marker (c ∷ r) ≡ false → ends_with_content c r ≡ true → plain_value (c ∷ r) ≡ Some ((after_text (c ∷ r) nothing).text)
unfolding plain_value
value_is c r e f =
    let z = elements_of 0 (c ∷ r) in
    (rw (e, z.are) (ap Some (sym (buffers_join z.all)))) ∙ ap (λ t. Some ((joined t).text)) (z.same nothing) ∙ ap Some (joined_solid c r nothing f)
