-- The documents of a text are valid trees, so those that can be written come back.
use Rattle.proof_loads.proofs.Common.{[], All, documents_of, Ev, List, Loader, map, nested_stream, NestedDocument, new_loader, Ok, one_by_one, Position, ReadDocumentsComeBack, reading, somewhere, subst, Tree, with_events, with_somewhere, ◌≡◌, arith}
use Rattle.defs_tree.specs.Valid.{IsDistinct, FitsI64}
use Rattle.defs_event.specs.Laws.{HasRead}
use Rattle.defs_event.proofs.Kept.{loaded_kept, distinct_kept, fits_kept}
use Rattle.proof_loads.proofs.Dumps.{dumps_are_read}

documents_read : (trees : List Tree) (l : Loader) → HasRead (Ok trees) l → documents_of l ≡ trees
documents_read trees l h = grind arith

-- what every loaded tree has, all documents of the reading have
kept_by_reading : (P : Tree → Type 0) (ds : List NestedDocument) (trees : List Tree) → reading ds ≡ Ok trees
    → ((es : List (Ev × Position)) → All P (documents_of (with_events new_loader es))) → All P trees
kept_by_reading P ds trees e h =
    let es = map somewhere (nested_stream ds) in
    let read = subst (λ r. HasRead r (with_events new_loader es)) e (one_by_one ds es (with_somewhere [] (nested_stream ds))) in
    subst (All P) (documents_read trees (with_events new_loader es) read) (h es)

pub documents_come_back : ReadDocumentsComeBack
documents_come_back keep_tags again compact multiline text trees is k d within writable =
    let distinct = kept_by_reading IsDistinct is.read.documents trees is.read.trees_are (loaded_kept _ distinct_kept) in
    let fits = kept_by_reading FitsI64 is.read.documents trees is.read.trees_are (loaded_kept _ fits_kept) in
    dumps_are_read again compact multiline _ (distinct k d within, fits k d within, writable)
