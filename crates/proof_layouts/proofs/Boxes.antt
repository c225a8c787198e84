-- Texts that are boxes: lines, each after LF and the spaces of a column.
use Rattle.proof_layouts.proofs.Common.{[], ap, append-nil, append_assoc, AreLines, arith, contents, joined, Line, List, refl, spell_lines, suc, sym, zero, ℕ, ◌++◌, ◌+◌, ◌∙◌, ◌∷◌, ◌≡◌}
use Rattle.defs_tree.specs.Box.{indented, hung, hung_lower, if_none}
use Rattle.defs_layout.specs.Marks.{line_feed, space}
use Rattle.defs_layout.specs.Gap.{spaces}

-- Lines at a column are each written after LF and the column's spaces, before the rest r.
abbrev pub spell_box : (column : ℕ) → List (List ℕ) → List ℕ → List ℕ
spell_box column [] r = r
spell_box column (l ∷ ls) r = line_feed ∷ spaces column (l ++ spell_box column ls r)

-- A text after LF and the column's spaces is a box, whatever the rest is.
pub record IsBox (c : ℕ) (text : List ℕ → List ℕ) (ls : List (List ℕ)) : Type 0 where
  pub spelt : (r : List ℕ) → line_feed ∷ spaces c (text r) ≡ spell_box c ls r

-- Lines after other lines are the others' rest.
spell_box-append : (column : ℕ) (ls ms : List (List ℕ)) (r : List ℕ) → spell_box column (ls ++ ms) r ≡ spell_box column ls (spell_box column ms r)
spell_box-append column [] ms r = refl
spell_box-append column (l ∷ ls) ms r = ap (λ x. line_feed ∷ spaces column (l ++ x)) (spell_box-append column ls ms r)

-- A box before another text is a box before the other's.
pub one_more : {c : ℕ} {text rest : List ℕ → List ℕ} {ls ms : List (List ℕ)} → IsBox c text ls → IsBox c rest ms
    → IsBox c (λ r. text (line_feed ∷ spaces c (rest r))) (ls ++ ms)
one_more {c = c} {rest = rest} {ls = ls} {ms = ms} x y = record {
  spelt = λ r. x.spelt (line_feed ∷ spaces c (rest r)) ∙ ap (λ m. spell_box c ls m) (y.spelt r) ∙ sym (spell_box-append c ls ms r);
}

-- A text has a line, so no brackets stand for its lines.
pub some_lines : {c : ℕ} {text : List ℕ → List ℕ} {ls : List (List ℕ)} (brackets : List ℕ) → IsBox c text ls
    → IsBox c text (if_none brackets ls)
some_lines {c = c} {text = text} {ls = []} brackets x = let e : line_feed ∷ spaces c (text []) ≡ [] = x.spelt [] in cc
some_lines {ls = l ∷ ls} brackets x = x

-- ---- boxes on a mark

-- Two spaces more are two characters after the others.
two_spaces : (n : ℕ) (r : List ℕ) → spaces n (space ∷ space ∷ r) ≡ spaces (n + 2) r
two_spaces zero r = refl
two_spaces (suc n) r = let e : suc (n + 2) ≡ suc n + 2 = omega arith in ap (λ x. space ∷ x) (two_spaces n r) ∙ ap (λ m. spaces m r) e

-- Indented lines stand two columns to the right.
indented_spelt : (column : ℕ) (ls : List (List ℕ)) (r : List ℕ) → spell_box column (indented ls) r ≡ spell_box (column + 2) ls r
indented_spelt column [] r = refl
indented_spelt column (l ∷ ls) r =
    rw (indented_spelt column ls r, two_spaces column (l ++ spell_box (column + 2) ls r)) refl

-- What stands after equally many spaces in equal texts is equal.
after_spaces : (n : ℕ) (a b : List ℕ) → spaces n a ≡ spaces n b → a ≡ b
after_spaces zero a b e = e
after_spaces (suc n) a b e = after_spaces n a b (cc)

-- A text that is a box two columns to the right, after a mark and a space, is the box hung on the mark.
pub hung_spelt : {c : ℕ} {text : List ℕ → List ℕ} {ls : List (List ℕ)} (mark : List ℕ) → IsBox (c + 2) text ls
    → IsBox c (λ r. mark ++ space ∷ text r) (hung mark ls)
hung_spelt {c = c} {text = text} {ls = []} mark x = let e : line_feed ∷ spaces (c + 2) (text []) ≡ [] = x.spelt [] in cc
hung_spelt {c = c} {text = text} {ls = l ∷ ls} mark x = record {
  spelt = λ r.
      let first : text r ≡ l ++ spell_box (c + 2) ls r =
      after_spaces (c + 2) (text r) (l ++ spell_box (c + 2) ls r) (let e = x.spelt r in cc) in
      ap (λ y. line_feed ∷ spaces c (mark ++ space ∷ y)) (first ∙ ap (λ y. l ++ y) (sym (indented_spelt c ls r)))
      ∙ ap (λ y. line_feed ∷ spaces c y) (sym (append_assoc mark (space ∷ l) (spell_box c (indented ls) r)));
}

-- A text that is a box two columns to the right, on the line below a mark, is the box hung lower on the mark.
pub hung_lower_spelt : {c : ℕ} {text : List ℕ → List ℕ} {ls : List (List ℕ)} (mark : List ℕ) → IsBox (c + 2) text ls
    → IsBox c (λ r. mark ++ line_feed ∷ spaces (c + 2) (text r)) (hung_lower mark ls)
hung_lower_spelt {c = c} {ls = ls} mark x = record {
  spelt = λ r. ap (λ y. line_feed ∷ spaces c (mark ++ y)) (x.spelt r ∙ sym (indented_spelt c ls r));
}

-- ---- literal blocks and whole texts

-- The lines of a literal block, as they are written at a column: an empty one is the column's spaces.
pub record LinesAt (column : ℕ) (ls : List (List ℕ)) : Type 0 where
  pub lines : List Line
  pub are : (contents lines ≡ ls) × AreLines column lines
  pub spelt : (r : List ℕ) → spell_lines column lines r ≡ spell_box column ls r

pub lines_at : (column : ℕ) (ls : List (List ℕ)) → LinesAt column ls
lines_at column [] = record { lines = []; are = (refl, tt); spelt = λ r. refl }
lines_at column ([] ∷ ls) =
    let x = lines_at column ls in
    record { lines = Line.blank column ∷ x.lines; are = (rw x.are.0 refl, (omega arith, x.are.1)); spelt = λ r. rw (x.spelt r) refl }
lines_at column ((c ∷ cs) ∷ ls) =
    let x = lines_at column ls in
    record { lines = Line.full (c ∷ cs) ∷ x.lines; are = (rw x.are.0 refl, (λ e. cc, x.are.1)); spelt = λ r. rw (x.spelt r) refl }

-- Lines joined are the first of them and the others at column 0.
joined_lines : (l : List ℕ) (ls : List (List ℕ)) → l ++ spell_box 0 ls [] ≡ joined (l ∷ ls)
joined_lines l [] = append-nil l
joined_lines l (m ∷ ls) = ap (λ x. l ++ line_feed ∷ x) (joined_lines m ls)

pub joined_spelt : {text : List ℕ → List ℕ} {ls : List (List ℕ)} (l : List ℕ) → IsBox 0 text ls → l ++ line_feed ∷ text [] ≡ joined (l ∷ ls)
joined_spelt {ls = ls} l x = ap (λ y. l ++ y) (x.spelt []) ∙ joined_lines l ls
