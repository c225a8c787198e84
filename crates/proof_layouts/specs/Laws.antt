-- Laws of streams that are read, and of JSON texts, layouts and quoted texts: each is the contract of the function of
-- `src/laws.rt` that its comment names.
use Rattle.std.specs.Prelude.{◌≡◌, ℕ, Bool, true, List, [], ◌∷◌, ◌++◌, Ok}
use Rattle.defs_text.specs.Position.{Position}
use Rattle.defs_token.specs.Token.{Tok}
use Rattle.defs_tree.specs.Tree.{Tree}
use Rattle.defs_tree.specs.Typing.{typing}
use Rattle.defs_layout.specs.JsonNumber.{Number, spell_number, is_number, number_tree}
use Rattle.defs_layout.specs.Json as json
use Rattle.defs_layout.specs.Json.{JsonText, IsWellFormed}
use Rattle.defs_layout.specs.Basic.{IsBasic}
use Rattle.defs_layout.specs.Layout.{Layout, IsLayout, trees_of}
use Rattle.defs_layout.specs.JsonTokens.{json_text_tokens}
use Rattle.defs_layout.specs.LayoutTokens.{layout_tokens}
use Rattle.defs_layout.specs.QuotedText.{HasQuotedTokens}
use Rattle.defs_event.specs.Event.{Ev}
use Rattle.defs_event.specs.Stream.{IsStream, Foretells, NoneBegins, events_of}
use Rattle.defs_event.specs.Nested.{nested_stream}
use Rattle.defs_event.specs.Reading.{reading}
use Rattle.defs_event.specs.Unfinished.{new_loader, with_events}
use Rattle.defs_event.specs.Laws.{HasRead}
use Rattle.defs_event.specs.ReadAs.{ReadAs, IsAtWork}
use Rattle.proof_layouts.specs.JsonNest.{json_documents}
use Rattle.proof_layouts.specs.BasicNest.{basic_documents}

-- ---- any tokens that are read

-- `read_streams_are_loaded`
abbrev pub ReadStreamsAreLoaded : Type 0
ReadStreamsAreLoaded =
    (keep_tags : Bool) (tokens : List Tok) (trees : List Tree) (events : List (Ev × Position)) → ReadAs keep_tags tokens trees → IsStream keep_tags tokens (events_of events)
    → HasRead (Ok trees) (with_events new_loader events)

-- `read_streams_are_not_refused`; `more` are the events after the beginning
abbrev pub ReadStreamsAreNotRefused : Type 0
ReadStreamsAreNotRefused =
    (keep_tags : Bool) (tokens : List Tok) (trees : List Tree) (events : List (Ev × Position)) (more : List Ev) → ReadAs keep_tags tokens trees
    → IsStream keep_tags tokens (events_of events ++ more) → IsAtWork (with_events new_loader events)

-- `foretold_events_are_not_refused`; `after` are the tokens after the beginning
abbrev pub ForetoldEventsAreNotRefused : Type 0
ForetoldEventsAreNotRefused =
    (keep_tags : Bool) (before after : List Tok) (trees : List Tree) (events : List (Ev × Position)) → ReadAs keep_tags (before ++ after) trees
    → Foretells keep_tags before (events_of events) → IsAtWork (with_events new_loader events)

-- `read_streams_are_not_cut`
abbrev pub ReadStreamsAreNotCut : Type 0
ReadStreamsAreNotCut = (keep_tags : Bool) (before after : List Tok) (trees : List Tree) → ReadAs keep_tags (before ++ after) trees → NoneBegins keep_tags before → ⊥

-- ---- JSON texts

-- `json_tokens_are_a_stream`
abbrev pub JsonTokensAreAStream : Type 0
JsonTokensAreAStream = (keep_tags : Bool) (w : JsonText) → IsStream keep_tags (json_text_tokens w) (nested_stream (json_documents w))

-- `json_numbers_stand_for_their_trees`
abbrev pub JsonNumbersStandForTheirTrees : Type 0
JsonNumbersStandForTheirTrees = (n : Number) → is_number n ≡ true → typing (spell_number n []) ≡ number_tree n

-- `json_documents_read_as_their_trees`
abbrev pub JsonDocumentsReadAsTheirTrees : Type 0
JsonDocumentsReadAsTheirTrees = (w : JsonText) → IsWellFormed w → reading (json_documents w) ≡ Ok (json.tree_of w.value ∷ [])

-- `json_tokens_read_as_their_tree`
abbrev pub JsonTokensReadAsTheirTree : Type 0
JsonTokensReadAsTheirTree = (keep_tags : Bool) (w : JsonText) → IsWellFormed w → ReadAs keep_tags (json_text_tokens w) (json.tree_of w.value ∷ [])

-- `json_events_are_loaded`
abbrev pub JsonEventsAreLoaded : Type 0
JsonEventsAreLoaded =
    (keep_tags : Bool) (w : JsonText) (events : List (Ev × Position)) → IsWellFormed w → IsStream keep_tags (json_text_tokens w) (events_of events)
    → HasRead (Ok (json.tree_of w.value ∷ [])) (with_events new_loader events)

-- ---- layouts

-- `layout_tokens_read_as_their_trees`
abbrev pub LayoutTokensReadAsTheirTrees : Type 0
LayoutTokensReadAsTheirTrees = (keep_tags : Bool) (w : Layout) → IsLayout w → ReadAs keep_tags (layout_tokens w) (trees_of w.documents)

-- `layout_events_are_loaded`
abbrev pub LayoutEventsAreLoaded : Type 0
LayoutEventsAreLoaded =
    (keep_tags : Bool) (w : Layout) (events : List (Ev × Position)) → IsLayout w → IsStream keep_tags (layout_tokens w) (events_of events)
    → HasRead (Ok (trees_of w.documents)) (with_events new_loader events)

-- `basic_tokens_are_a_stream`
abbrev pub BasicTokensAreAStream : Type 0
BasicTokensAreAStream = (keep_tags : Bool) (w : Layout) (basic : IsBasic w) → IsStream keep_tags (layout_tokens w) (nested_stream (basic_documents w basic))

-- `basic_documents_read_as_their_trees`
abbrev pub BasicDocumentsReadAsTheirTrees : Type 0
BasicDocumentsReadAsTheirTrees = (w : Layout) (basic : IsBasic w) → IsLayout w → reading (basic_documents w basic) ≡ Ok (trees_of w.documents)

-- ---- quoted texts

-- `quoted_tokens_read_as_their_string`; `quoted` has what was written, the scalar's value, and that these are its tokens
abbrev pub QuotedTokensReadAsTheirString : Type 0
QuotedTokensReadAsTheirString =
    (keep_tags : Bool) (text : List ℕ) (tokens : List Tok) (quoted : HasQuotedTokens text tokens) → ReadAs keep_tags tokens (Tree.string quoted.1 ∷ [])
