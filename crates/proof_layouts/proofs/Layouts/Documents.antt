-- A layout's stream, its documents and what they are read as.
use Rattle.proof_layouts.proofs.Common.{[], Anchors, append_assoc, AreDocuments, at_document, Block, Bool, Documents, documents_tokens, Ev, false, in_block, Inline, layout_tokens, LayoutEventsAreLoaded, LayoutTokensReadAsTheirTrees, List, marked, Names, nested_documents_events, NestedDocument, no_names, node, Ok, Raw, read_documents, refl, Root, root_tokens, root_tree, saying, Scalar, Tok, Tree, trees_of, true, with_node, ◌++◌, ◌∷◌, ◌≡◌}
use Rattle.defs_event.specs.Grammar as at
use Rattle.proof_layouts.proofs.Loads.{streams_are_loaded}
use Rattle.proof_layouts.proofs.Says.{Works, goal_and, Says, taken, left, said, stream_ends, stream_said}
use Rattle.proof_layouts.proofs.Numbered.{Agree, Known}
use Rattle.proof_layouts.proofs.Layouts.Reading.{root_reads}

-- ---- documents

-- a document's node, and what comes after it
abbrev document_and : Works
document_and = saying (Raw.document_start []) ∷ goal_and (node in_block) (goal_and at.document_end [])

-- the names s and what was read before them
record ReadsDocuments (keep_tags : Bool) (s : Names) (read : Anchors) (ds : Documents) : Type 0 where
  nodes : List NestedDocument
  last : Anchors
  says : Says keep_tags s document_and (documents_tokens ds) (nested_documents_events nodes (Ev.stream_end ∷ []))
  reads : (held : List Tree) → read_documents nodes held read ≡ Ok (held ++ trees_of ds, last)

abbrev at_start : Bool → Names → Anchors → Known [] []
at_start keep_tags s read = record { names = at_document keep_tags s []; read = read; agrees = Agree.none }

documents_read : (keep_tags : Bool) (s : Names) (read : Anchors) (ds : Documents) → AreDocuments ds → ReadsDocuments keep_tags s read ds
documents_read keep_tags s read (Documents.last_document d after) are =
    let x = root_reads {keep_tags = keep_tags} (at_start keep_tags s read) d.root are.1 in
    record {
      nodes = with_node x.node ∷ [];
      last = x.after.read;
      says = said _ refl (x.says _ _ _ stream_ends);
      reads = λ held. rw x.reads refl;
    }
documents_read keep_tags s read (Documents.document d g ds) are =
    let x = root_reads {keep_tags = keep_tags} (at_start keep_tags s read) d.root are.1 in
    let y = documents_read keep_tags x.after.names x.after.read ds are.3 in
    record {
      nodes = with_node x.node ∷ y.nodes;
      last = y.last;
      says = said _ refl (x.says _ _ _ (left _ refl (said _ refl (taken _ refl y.says))));
      reads = λ held. rw (x.reads, y.reads (held ++ root_tree d.root ∷ []), append_assoc) refl;
    }

-- ---- the stream

-- a first document without marker: its node's first token begins it
root_left : {keep_tags : Bool} {s : Names} {es : List Ev} (root : Root) (r : List Tok) → Says keep_tags s document_and (root_tokens root r) es
    → Says keep_tags s (goal_and at.documents []) (root_tokens root r) es
root_left (Root.block column (Block.array vs)) r x = left _ refl x
root_left (Root.inline (Inline.scalar (Scalar.plain t))) r x = left _ refl x
root_left _ r x = left _ refl x

documents_left : {keep_tags : Bool} {s : Names} {es : List Ev} (is_marked : Bool) (ds : Documents) → Says keep_tags s document_and (documents_tokens ds) es
    → Says keep_tags s (goal_and at.documents []) (marked is_marked (documents_tokens ds)) es
documents_left true ds x = left _ refl (taken _ refl x)
documents_left false (Documents.last_document d after) x = root_left d.root _ x
documents_left false (Documents.document d g ds) x = root_left d.root _ x

pub tokens_read_as_their_trees : LayoutTokensReadAsTheirTrees
tokens_read_as_their_trees keep_tags w is =
    let x = documents_read keep_tags no_names [] w.documents is in
    record {
      documents = x.nodes;
      stream = stream_said (taken _ refl (said _ refl (documents_left w.is_marked w.documents x.says)));
      trees_are = rw (x.reads []) refl;
    }

pub events_are_loaded : LayoutEventsAreLoaded
events_are_loaded keep_tags w es is s = streams_are_loaded keep_tags (layout_tokens w) (trees_of w.documents) es (tokens_read_as_their_trees keep_tags w is) s
