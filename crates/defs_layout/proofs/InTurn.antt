-- A basic layout is a layout of its one tree, and basic layouts one after another, an LF after each, are a layout of their trees.
use Rattle.defs_layout.proofs.Common.{[], ap, AreDocuments, AreEmptyLines, codes, Document, document, Documents, empty_line, GapLine, IsBasicLayout, IsBasicRoot, IsGap, last_document, List, refl, root_tree, spell_document, spell_documents, spell_ending, spell_gap, sym, Tree, trees_of, true, ℕ, ◌++◌, ◌∙◌, ◌∷◌, ◌≡◌, arith}
use Rattle.defs_layout.specs.InTurn.{AreLaidOutInTurn}
use Rattle.defs_layout.specs.Laws.{BasicLayoutsAreLayouts, LayoutsInTurnAreLayouts}
use Rattle.defs_layout.proofs.Appended.{document_append}

pub is_layout : BasicLayoutsAreLayouts
is_layout t text (w, is, basic, spelt, trees) = (w, is, spelt, trees)

-- ---- the one document of a basic layout

record One (t : Tree) (text : List ℕ) : Type 0 where
  written : Document
  after : List GapLine
  is : AreDocuments (last_document written after)
  basic : IsBasicRoot written.root
  spelt : codes "---\n" ++ spell_document written (spell_ending after []) ≡ text
  tree : root_tree written.root ≡ t

one : (t : Tree) (text : List ℕ) → IsBasicLayout t text → One t text
one t text (w, is, basic, spelt, trees) = grind arith

-- ---- an LF after it

-- it ends the last line of what ends the document
feed_ends : (g : List GapLine) (r : List ℕ) → spell_ending g (10 ∷ r) ≡ 10 ∷ spell_gap g r
feed_ends [] r = refl
feed_ends (l ∷ g) r = grind (arith, feed_ends g r)

-- or it is an empty line more
ending_text : (g : List GapLine) → spell_ending (g ++ empty_line ∷ []) [] ≡ spell_ending g (10 ∷ [])
ending_text [] = refl
ending_text (l ∷ g) = grind (arith, ending_text g)

ended_gap : (g : List GapLine) → IsGap g → IsGap (g ++ empty_line ∷ [])
ended_gap [] h = (tt, tt)
ended_gap (l ∷ g) h = (h.0, ended_gap g h.1)

ended_lines : (g : List GapLine) → AreEmptyLines g → AreEmptyLines (g ++ empty_line ∷ [])
ended_lines [] h = (tt, tt)
ended_lines (l ∷ g) h = (h.0, ended_lines g h.1)

-- ---- all of them

-- documents, the first after its `---`
record AllInTurn (trees : List Tree) (text : List ℕ) : Type 0 where
  written : Documents
  are : AreDocuments written
  spelt : codes "---\n" ++ spell_documents written [] ≡ text
  stand : trees_of written ≡ trees

in_turn : (t : Tree) (ts : List Tree) (text : List ℕ) → AreLaidOutInTurn (t ∷ ts) text → AllInTurn (t ∷ ts) text
in_turn t [] text (first, others, laid, none, whole) =
    let o = one t first laid in
    record {
      written = last_document o.written (o.after ++ empty_line ∷ []);
      are = (o.is.0, o.is.1, grind (arith, ended_gap, ended_lines));
      spelt =
          ap (λ x. codes "---\n" ++ spell_document o.written x) (ending_text o.after) ∙ document_append o.written o.after o.basic [] (10 ∷ [])
          ∙ ap (λ x. x ++ 10 ∷ []) o.spelt ∙ ap (λ x. first ++ 10 ∷ x) (sym none) ∙ whole;
      stand = ap (λ x. x ∷ []) o.tree;
    }
in_turn t (u ∷ us) text (first, others, laid, more, whole) =
    let o = one t first laid in
    let z = in_turn u us others more in
    record {
      written = document o.written o.after z.written;
      are = (o.is.0, o.is.1, o.is.2, z.are);
      spelt =
          ap (λ x. codes "---\n" ++ spell_document o.written x) (ap (λ x. 10 ∷ spell_gap o.after x) z.spelt ∙ sym (feed_ends o.after others))
          ∙ document_append o.written o.after o.basic [] (10 ∷ others) ∙ ap (λ x. x ++ 10 ∷ others) o.spelt ∙ whole;
      stand = ap (λ x. x ∷ trees_of z.written) o.tree ∙ ap (λ ts. t ∷ ts) z.stand;
    }

pub layouts_in_turn : LayoutsInTurnAreLayouts
layouts_in_turn t ts text laid = let z = in_turn t ts text laid in (record { is_marked = true; documents = z.written }, z.are, z.spelt, z.stand)
