-- In the table of the token grammar, rows for all other tokens are chosen by each token that ends a goal too.
use Rattle.model_parser.proofs.Common.{[], arith, before, Bool, cases, content, directives, document_end, documents, ends_goal, explicit_document, false, grammar, Held, in_block, in_flow, in_pair, indentless_sequence_entries, inl, inr, key, leaves, List, node, None, Part, Raw, read, refl, Row, row_of, say, Some, stream, Tok, true, value, weight, Work, ◌∷◌, ◌≡◌}
use Rattle.defs_event.specs.Kinds.{begins_flow_node, begins_node}
use Rattle.defs_event.specs.Grammar.{Goal}
use Rattle.defs_event.proofs.Meanings.{EachRow, row_holds}
use Rattle.model_parser.proofs.Falls.{grammar_falls, grammar_completes}
use Rattle.model_parser.proofs.Track.{LeavingRow, EndsGoal}
use Rattle.model_parser.proofs.Runs.{BottomRow, IsMended}

-- ---- bottom goals

abbrev pub is_bottom : Goal → Bool
is_bottom stream = true
is_bottom documents = true
is_bottom directives = true
is_bottom explicit_document = true
is_bottom document_end = true
is_bottom _ = false

bottoms : (g : Goal) (t : Tok) (r : Row Goal Raw) → is_bottom g ≡ true → row_of (cases g) t ≡ Some r → BottomRow grammar is_bottom t r
bottoms g t r b p = row_holds (λ t r. BottomRow grammar is_bottom t r) (λ t. false) (cases g) (grind arith) t refl r p

-- ---- tokens that end a goal

abbrev Leaves : Goal → List (Part Goal Raw) → Tok → Type 0
Leaves g ps t = row_of (cases g) t ≡ Some (leaves ps)

-- A row for all other tokens is that of these tokens too, and shows none of them.
others : (g : Goal) (t : Tok) (ps : List (Part Goal Raw)) → Leaves g ps Tok.stream_start → Leaves g ps Tok.stream_end → Leaves g ps Tok.document_start
    → Leaves g ps Tok.block_end → Leaves g ps Tok.flow_sequence_end → Leaves g ps Tok.flow_mapping_end
    → ((u : Tok) (h : Held) (w : List (Work Goal Raw Held)) → before grammar h u ps w ≡ before grammar h t ps w) → LeavingRow grammar weight ends_goal g t (leaves ps)
others g t ps a b c d e f same = inl (λ u is. (grind arith, λ h w. same u h w))

-- ---- all rows

-- Rows that leave a token to a flow node, or to a document's node, leave it where it is taken.
flow_leaving : (g : Goal) (t : Tok) (ps : List (Part Goal Raw)) → begins_flow_node t ≡ true → LeavingRow grammar weight ends_goal g t (leaves (read (node in_flow) ∷ ps))
flow_leaving g t ps i = inr (λ h w es e. grind arith)

bare_leaving : (g : Goal) (t : Tok) → begins_node t ≡ true → LeavingRow grammar weight ends_goal g t (leaves (say (Raw.document_start []) ∷ read (node in_block) ∷ read document_end ∷ []))
bare_leaving g t i = inr (λ h w es e. grind arith)

leaving_rows : (g : Goal) → EachRow (λ t r. LeavingRow grammar weight ends_goal g t r) (λ t. false) (cases g)
leaving_rows (content in_flow) = search others
leaving_rows (content (in_pair key)) = search others
leaving_rows (content (in_pair value)) = search others
leaving_rows (indentless_sequence_entries key) = search others
leaving_rows g = search (others, bare_leaving, flow_leaving)

pub leaving : (g : Goal) (t : Tok) (r : Row Goal Raw) → row_of (cases g) t ≡ Some r → LeavingRow grammar weight ends_goal g t r
leaving g t r p = row_holds (λ t r. LeavingRow grammar weight ends_goal g t r) (λ t. false) (cases g) (leaving_rows g) t refl r p

-- ---- goals that refuse tokens

pub ended : (g : Goal) (h : Held) (t : Tok) → row_of (cases g) t ≡ None → EndsGoal grammar_completes ends_goal g h
ended (content in_flow) h t p = absurd (grind arith)
ended (content in_block) h t p = absurd (grind arith)
ended g h t p = grind arith

pub mended : IsMended grammar weight is_bottom ends_goal
mended = record { falls = grammar_falls; completes = grammar_completes; bottoms = bottoms; leaving = leaving; ended = ended }
