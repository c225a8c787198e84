-- The definitions' positions are the model's.
use Rattle.proof_lexers.proofs.Common.{[], along, ap, append-nil, append_assoc, arith, false, first_content, is_break, is_in_line, is_spaces, length, List, None, past, past_break, Position, position_after, position_past, refl, sym, true, ℕ, ◌++◌, ◌+◌, ◌∙◌, ◌∷◌, ◌≡◌, ◌≤◌, Read, indent_from, Column, Option, if◌then◌else◌, is_empty, Some, same_break}
use Rattle.defs_text.specs.Classes as classes
use Rattle.proof_lexers.proofs.Blocks.Margins.{after_break, after_line, after_lines, AreLines, at, Break, empty_passes, first_inner, Fits, Line, put, spell}
use Rattle.proof_lexers.proofs.Plain.Turns.{in_line_position, line_position, same_feed}

-- after a character of a line
pub past_is : (p : Position) (c : ℕ) (r : List ℕ) → is_break c ≡ false → position_past p c r ≡ past p
past_is p c r h = in_line_position c r p (rw (same_break c, h) refl)

pub space_past : (p : Position) (r : List ℕ) → position_past p 32 r ≡ past p
unfolding is_break
space_past p r = past_is p 32 r refl

pub feed_past : (p : Position) (r : List ℕ) → position_past p 10 r ≡ past_break p
unfolding classes.is_break
feed_past p a = grind (arith, line_position)

both_past : (p : Position) (r : List ℕ) → position_past p 13 (10 ∷ r) ≡ past p
unfolding classes.is_break
both_past p r = in_line_position 13 (10 ∷ r) p refl

-- ---- the position after a piece

pub after_chars : (w y next : List ℕ) (p : Position) → is_in_line w ≡ true → position_after p (w ++ y) next ≡ position_after (along w p) y next
after_chars [] y next p h = refl
after_chars (c ∷ w) y next p h = grind (arith, first_inner, past_is, after_chars w y next (past p))

pub after_put : (k : Break) (y next : List ℕ) (p : Position) → Fits k (y ++ next) → position_after p (put k y) next ≡ position_after (after_break k p) y next
unfolding classes.is_break
after_put a y next p fits = grind (arith, feed_past, line_position, both_past, past)

pub spell_more : (ls : List Line) (a b : List ℕ) → spell ls a ++ b ≡ spell ls (a ++ b)
spell_more [] a b = refl
spell_more (l ∷ ls) a b = grind (arith, append_assoc, spell_more ls a b)

pub after_spell : (ls : List Line) (y next : List ℕ) (p : Position) → AreLines ls (y ++ next) → position_after p (spell ls y) next ≡ position_after (after_lines ls p) y next
after_spell [] y next p are = refl
after_spell (l ∷ ls) y next p are = grind (arith, spell_more, after_chars, after_put, after_spell ls y next (after_line l p))

-- ---- the position of the first content

-- where a search stopped before the text's end
abbrev pub stopped_at : Read Column → Option Position
stopped_at r = (if is_empty r.rest then None else Some r.position)

-- the definitions' search for content is the model's
pub first_is : (column : ℕ) (a : List ℕ) (p : Position) (b : List ℕ) → first_content column false p a ≡ stopped_at (indent_from column a (at p b))
unfolding classes.is_break is_break
first_is column [] p b = refl
first_is column (c ∷ a) p b = grind (arith, same_feed, in_line_position, line_position, first_is column a (past p) b, first_is column a (past_break p) (b ++ 10 ∷ []))

pub first_empty : (column : ℕ) (l : Line) (y : List ℕ) (p : Position) → is_spaces l.text ≡ true → p.col + length l.text ≤ column → Fits l.by y
    → first_content column false p (l.text ++ put l.by y) ≡ first_content column false (after_line l p) y
first_empty column l y p h le fits = first_is column (l.text ++ put l.by y) p [] ∙ ap stopped_at (empty_passes column l y p [] h le fits) ∙ sym (first_is column y (after_line l p) (10 ∷ []))

header_chars : (column : ℕ) (w y : List ℕ) (p : Position) → is_in_line w ≡ true → first_content column true p (w ++ y) ≡ first_content column true (along w p) y
header_chars column [] y p h = refl
header_chars column (c ∷ w) y p h = grind (arith, first_inner, same_break, past_is, header_chars column w y (past p))

pub first_header : (column : ℕ) (w : List ℕ) (k : Break) (y : List ℕ) (p : Position) → is_in_line w ≡ true → Fits k y → first_content column true p (w ++ put k y) ≡ first_content column false (after_break k (along w p)) y
unfolding classes.is_break
first_header column w k y p h fits = header_chars column w (put k y) p h ∙ (grind arith)

pub header_alone : (column : ℕ) (w : List ℕ) (p : Position) → is_in_line w ≡ true → first_content column true p w ≡ None
header_alone column w p h = ap (λ x. first_content column true p x) (sym (append-nil w)) ∙ header_chars column w [] p h
