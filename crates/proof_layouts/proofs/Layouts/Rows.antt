-- Layouts with anchors, and their trees, computed.
use Rattle.std.specs.Fmt.{digits}
use Rattle.proof_layouts.proofs.Common.{[], Block, codes, Document, Documents, Entries, false, Field, Fields, Inline, IsLayout, items_of, Layout, List, no_comment, pairs_of, pos, Root, Scalar, spell, Tree, trees_of, true, Value, written_character, ℕ, ◌∷◌, ◌≡◌}

abbrev single : List ℕ → Inline
single text = Inline.scalar (Scalar.single_quoted text)

abbrev number : Tree → Inline
number t = Inline.scalar (Scalar.plain t)

-- a value after one space
abbrev beside : Inline → Value
beside i = Value.beside 0 i no_comment

abbrev document : Root → Document
document x = record { gap = []; root = x }

-- ---- `"k":`, `- &n 'x'`, `- *n`, and a second document with the same name

abbrev named_entries : Entries
named_entries = Entries.entry (Value.anchored 0 (codes "n") (beside (single (codes "x")))) [] (Entries.last_entry (Value.alias 0 (codes "n") (Tree.string (codes "x"))))

abbrev two_documents : Layout
two_documents = record {
  is_marked = false;
  documents = Documents.document
      (document (Root.block 0 (Block.hash (Fields.last_field (Field.implicit (Scalar.quoted (codes "k")) (Value.at_key no_comment [] named_entries)))))) []
      (Documents.last_document (document (Root.block 0 (Block.array named_entries))) []);
}

-- ---- `- &a 1`, `- &a 2`, `- *a`: the last node of the name counts

abbrev twice_named : Layout
twice_named = record {
  is_marked = true;
  documents = Documents.last_document (document (Root.block 0 (Block.array
      (Entries.entry (Value.anchored 0 (codes "a") (beside (number (Tree.integer (pos 1))))) []
      (Entries.entry (Value.anchored 0 (codes "a") (beside (number (Tree.integer (pos 2))))) []
      (Entries.last_entry (Value.alias 0 (codes "a") (Tree.integer (pos 2))))))))) [];
}

record Rows : Type 0 where
  two_documents_text : spell two_documents [] ≡ codes "\"k\":\n- &n 'x'\n- *n\n---\n- &n 'x'\n- *n"
  two_documents_trees : trees_of two_documents.documents ≡
      Tree.hash (pairs_of ((Tree.string (codes "k"), Tree.array (items_of (Tree.string (codes "x") ∷ Tree.string (codes "x") ∷ []))) ∷ []))
      ∷ Tree.array (items_of (Tree.string (codes "x") ∷ Tree.string (codes "x") ∷ [])) ∷ []
  twice_named_is : IsLayout twice_named
  twice_named_trees : trees_of twice_named.documents ≡
      Tree.array (items_of (Tree.integer (pos 1) ∷ Tree.integer (pos 2) ∷ Tree.integer (pos 2) ∷ [])) ∷ []

rows : Rows
unfolding written_character digits
rows = search
