-- Laws of documents, whatever text they were read from: each is the contract of the function of `src/documents.rt` that its comment names.
use Rattle.std.specs.Prelude.{ℕ, ◌≡◌, ◌⊎◌, Bool, List, [], ◌∷◌, ◌++◌, All}
use Rattle.defs_text.specs.Position.{Position}
use Rattle.defs_token.specs.Token.{Tok}
use Rattle.defs_tree.specs.Tree.{Tree, bad_value}
use Rattle.defs_tree.specs.DumpText.{dump_text}
use Rattle.defs_tree.specs.Writable.{IsWritable}
use Rattle.defs_event.specs.Event.{Ev}
use Rattle.defs_event.specs.Stream.{IsStream, events_of}
use Rattle.defs_event.specs.Unfinished.{Opened, opened_sequence, opened_mapping, Unfinished, new_loader, at_work, with_events, with_event, with_tree}
use Rattle.defs_event.specs.Meaning.{Means}

-- `read_documents_come_back`, in each setting; with and without `keep_tags`, for either text
abbrev pub ReadDocumentsComeBack : Type 0
ReadDocumentsComeBack =
    (keep_tags again compact multiline : Bool) (text : List ℕ) (trees : List Tree) → Means keep_tags text trees
    → All (λ t. IsWritable t → Means again (dump_text compact multiline t) (t ∷ [])) trees

-- a collection with this anchor is open
abbrev pub IsOpen : ℕ → List Opened → Type 0
IsOpen n [] = ⊥
IsOpen n (opened_sequence a ts ∷ outer) = (a ≡ n) ⊎ IsOpen n outer
IsOpen n (opened_mapping a ps waiting ∷ outer) = (a ≡ n) ⊎ IsOpen n outer

-- `aliases_inside_their_node_are_bad_values`: a stream's events begin with those before, and the node with the anchor n, which the
-- alias means, is still open after them
abbrev pub AliasesInsideTheirNodeAreBadValues : Type 0
AliasesInsideTheirNodeAreBadValues =
    (keep_tags : Bool) (tokens : List Tok) (before : List (Ev × Position)) (n : ℕ) (more : List Ev) (u : Unfinished)
    → IsStream keep_tags tokens (events_of before ++ Ev.alias n ∷ more) → with_events new_loader before ≡ at_work u → IsOpen n u.opened
    → with_event u (Ev.alias n) ≡ with_tree bad_value u u.opened
