-- Bodies with a value are read as it.
use Rattle.proof_lexers.proofs.Common.{after_elements, Bool, double_quoted_value, Element, element_of, elements, false, has_document_marker, joined, lines_of, List, nothing, quote_of, quoted, QuotedBodiesAreRead, shallow, single_quoted_value, Some, trimmed, value_of, ℕ, ◌∙◌, ◌∷◌, ◌≡◌, arith}
use Rattle.defs_text.specs.FlowScalar.{folded}
use Rattle.proof_lexers.specs.QuotedScan.{IsRead}
use Rattle.proof_lexers.proofs.Fold.{buffers_join}
use Rattle.proof_lexers.proofs.Quoted.NoNul.{has_none, same_marks}
use Rattle.proof_lexers.proofs.Quoted.Bodies.{quote_still, quote_feed, close, through}

-- a body with a value has elements, and no line of it begins with a marker
pub record HasElements (single : Bool) (body value : List ℕ) : Type 0 where
  pub all : List Element
  pub are : elements (element_of single) 0 body ≡ Some all
  pub unmarked : has_document_marker body ≡ false
  pub value_is : folded (trimmed (lines_of all)) ≡ value

pub parts : (single : Bool) (body value : List ℕ) → value_of single body ≡ Some value → HasElements single body value
unfolding single_quoted_value double_quoted_value
parts single body value h = grind arith

-- the value of a body of elements, of which no line begins with a marker
pub value_is : (single : Bool) (body : List ℕ) (es : List Element) → elements (element_of single) 0 body ≡ Some es → has_document_marker body ≡ false → value_of single body ≡ Some (folded (trimmed (lines_of es)))
unfolding single_quoted_value double_quoted_value
value_is single body es e f = grind arith

pub bodies_are_read : QuotedBodiesAreRead
unfolding quoted
bodies_are_read single ctx body r value p h ends =
    let z = parts single body value h in
    let none = same_marks single body r (has_none single 0 body z.all z.are) ∙ z.unmarked in
    rw (← z.value_is, ← buffers_join z.all)
    (through single ctx p (IsRead ctx p (joined (after_elements z.all nothing)).text r) body (quote_of single ∷ r) z.all z.are (quote_feed single r) (quote_still single r)
    (λ x s. shallow s) (λ meets. absurd (cc (meets, none))) (λ m q ready unmarked. close single ctx p r ends m q _ ready))
