-- The one document of a basic layout is read as its tree: so are its tokens.
use Rattle.proof_layouts.proofs.Common.{basic_documents, BasicDocumentsReadAsTheirTrees, false, layout_tokens, trees_of}
use Rattle.proof_layouts.proofs.Basic.Derived.{tokens_are_a_stream}
use Rattle.proof_layouts.proofs.Loads.{documents_are_read}
use Rattle.proof_layouts.proofs.Layouts.Documents.{tokens_read_as_their_trees}

pub documents_read_as_their_trees : BasicDocumentsReadAsTheirTrees
documents_read_as_their_trees w basic is =
    documents_are_read false (layout_tokens w) (trees_of w.documents) (basic_documents w basic) (tokens_read_as_their_trees false w is) (tokens_are_a_stream false w basic)
