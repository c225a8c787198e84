-- What a text's events are read as is what it means.
use Rattle.proof_loads.proofs.Common.{[], ap, Bool, IsRead, IsStream, List, map, Means, nested_stream, NestedDocument, new_loader, Ok, one_by_one, read_again, reading, somewhere, subst, sym, Token, toks, Tree, with_events, with_somewhere, ℕ, ◌∙◌, ◌≡◌}
use Rattle.defs_event.proofs.OneReading as grammar
use Rattle.proof_row.proofs.OneRow as row

-- Documents whose events the text has are read as the trees that it means.
pub one_reading : {keep_tags : Bool} {text : List ℕ} {trees : List Tree} (tokens : List Token) (documents : List NestedDocument) → IsRead text tokens → IsStream keep_tags (toks tokens) (nested_stream documents)
    → Means keep_tags text trees → reading documents ≡ Ok trees
one_reading {keep_tags} {text} tokens documents has stream x =
    let same : toks tokens ≡ toks x.tokens = ap toks (row.one_reading text tokens x.tokens has x.has) in
    let events = grammar.one_list keep_tags (toks tokens) (nested_stream documents) (nested_stream x.read.documents) stream (subst (λ ts. IsStream keep_tags ts (nested_stream x.read.documents)) (sym same) x.read.stream) in
    let es = map somewhere (nested_stream documents) in
    let are = with_somewhere [] (nested_stream documents) in
    read_again (reading documents) (reading x.read.documents) (with_events new_loader es) (one_by_one documents es are) (one_by_one x.read.documents es (are ∙ events)) x.read.trees_are
