-- What stands after a basic layout is appended to its text.
use Rattle.defs_layout.proofs.Common.{[], ap, append_assoc, AreBasicEntries, AreBasicFields, array, Block, codes, comment, Document, Entries, entry, explicit, Field, field, Fields, GapLine, hash, implicit, Inline, IsBasicBlock, IsBasicField, IsBasicRoot, IsBasicValue, last_entry, last_field, Line, List, next_line, no_comment, refl, spaces, spell_block, spell_document, spell_ending, spell_entries, spell_field, spell_fields, spell_gap, spell_inline, spell_line, spell_lines, spell_literal, spell_scalar, spell_value, suc, Value, zero, ℕ, ◌++◌, ◌+◌, ◌∙◌, ◌∷◌, ◌≡◌, arith}

-- the text of f goes before what stands after it
abbrev Appends : (List ℕ → List ℕ) → Type 0
Appends f = (a b : List ℕ) → f (a ++ b) ≡ f a ++ b

-- ---- gaps and lines

spaces_append : (n : ℕ) → Appends (spaces n)
spaces_append zero a b = refl
spaces_append (suc n) a b = ap (λ x. 32 ∷ x) (spaces_append n a b)

gap_append : (g : List GapLine) → Appends (spell_gap g)
gap_append [] a b = refl
gap_append (l ∷ g) a b = grind (arith, append_assoc, gap_append g a b)

ending_append : (g : List GapLine) → Appends (spell_ending g)
ending_append [] a b = refl
ending_append (l ∷ g) a b = grind (arith, append_assoc, ending_append g a b)

next_line_append : (column : ℕ) (g : List GapLine) → Appends (next_line column g)
next_line_append column g a b = simp (spaces_append, gap_append)

line_append : (column : ℕ) (l : Line) → Appends (spell_line column l)
line_append column d a b = grind (arith, append_assoc, spaces_append)

lines_append : (column : ℕ) (ls : List Line) → Appends (spell_lines column ls)
lines_append column [] a b = refl
lines_append column (l ∷ ls) a b = rw (lines_append column ls a b, line_append column l _ b) refl

-- ---- nodes

inline_append : (i : Inline) → Appends (spell_inline i)
inline_append d a b = grind (arith, append_assoc)

literal_append : (column : ℕ) (text : List ℕ) (ls : List Line) → Appends (spell_literal column text ls)
literal_append column text ls a b = grind (arith, lines_append, append_assoc)

after_spaces : (more : ℕ) (f : List ℕ → List ℕ) → Appends f → Appends (λ r. 32 ∷ spaces more (f r))
after_spaces more f h a b = rw (h a b, spaces_append more (f a) b) refl

mutual
  block_append : (c : ℕ) (k : Block) → IsBasicBlock k → Appends (spell_block c k)
  block_append c (array es) h a b = entries_append c es h a b
  block_append c (hash fs) h a b = fields_append c fs h a b

  value_append : (c : ℕ) (v : Value) → IsBasicValue v → Appends (spell_value c v)
  value_append c (Value.beside more i no_comment) h a b = after_spaces more (spell_inline i) (inline_append i) a b
  value_append c (Value.literal more column text ls) h a b = after_spaces more (spell_literal column text ls) (literal_append column text ls) a b
  value_append c (Value.compact more k) h a b = after_spaces more (spell_block (c + 2 + more) k) (block_append (c + 2 + more) k h) a b
  value_append c (Value.below no_comment g column k) h a b = rw (block_append column k h.1 a b, next_line_append column g _ b) refl
  value_append c (Value.beside more i (comment n text)) h a b = absurd h.1
  value_append c (Value.below (comment n text) g column k) h a b = absurd h.0
  value_append c v h a b = absurd h

  entries_append : (c : ℕ) (es : Entries) → AreBasicEntries es → Appends (spell_entries c es)
  entries_append c (last_entry v) h a b = ap (λ x. 45 ∷ x) (value_append c v h a b)
  entries_append c (entry v g es) h a b =
      rw (entries_append c es h.1 a b, next_line_append c g _ b, value_append c v h.0 _ b) refl

  field_append : (c : ℕ) (f : Field) → IsBasicField f → Appends (spell_field c f)
  field_append c (implicit k v) h a b =
      ap (λ x. spell_scalar k (58 ∷ x)) (value_append c v h.1 a b) ∙ (grind (arith, append_assoc))
  field_append c (explicit k g v) h a b =
      rw (value_append c v h.1 a b, next_line_append c g (58 ∷ spell_value c v a) b, value_append c k h.0 _ b) refl

  fields_append : (c : ℕ) (fs : Fields) → AreBasicFields fs → Appends (spell_fields c fs)
  fields_append c (last_field f) h a b = field_append c f h a b
  fields_append c (field f g fs) h a b =
      rw (fields_append c fs h.1 a b, next_line_append c g _ b, field_append c f h.0 _ b) refl

-- ---- a document after its `---`

pub document_append : (d : Document) (after : List GapLine) → IsBasicRoot d.root → Appends (λ r. codes "---\n" ++ spell_document d (spell_ending after r))
document_append d after h a b = grind (arith, ending_append, gap_append, block_append, spaces_append, inline_append, literal_append)
