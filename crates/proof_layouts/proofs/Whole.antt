-- The text that `dump` writes for a tree is a layout of that tree.
use Rattle.std.proofs.lemmas.List.Elements.{All-head, All-tail}
use Rattle.proof_layouts.proofs.Common.{[], dump_text, refl, true, ◌∷◌}
use Rattle.defs_layout.specs.DumpIsInjective.{CanBeWritten}
use Rattle.defs_layout.specs.DumpIsLaidOut.{DumpsAreLaidOut}
use Rattle.defs_layout.specs.DumpsInTurn.{DumpsInTurnAreLaidOut, dump_texts}
use Rattle.proof_layouts.proofs.DumpLayout.{as_root, node_of}

-- The layout that dump writes is valid, has the text of the dump, and stands for the tree.
pub dump_is_laid_out : DumpsAreLaidOut
dump_is_laid_out compact multiline t distinct fits writable = as_root (node_of compact multiline true 0 t distinct fits writable.has_text)

-- The same of several trees, an LF after each text.
pub dumps_are_laid_out_in_turn : DumpsInTurnAreLaidOut
dumps_are_laid_out_in_turn compact multiline [] can = refl
dumps_are_laid_out_in_turn compact multiline (t ∷ ts) can =
    let one = All-head CanBeWritten t ts can in
    (dump_text compact multiline t, dump_texts compact multiline ts, dump_is_laid_out compact multiline t one.0 one.1 one.2, dumps_are_laid_out_in_turn compact multiline ts (All-tail CanBeWritten t ts can), refl)
