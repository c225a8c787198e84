-- The tokens of a row, with their positions. YAML 1.2, sections 7.4 (flow collections), 8.2 (block collections).
use Rattle.std.specs.Prelude.{ℕ, zero, suc, ◌-◌, List, [], ◌∷◌, ◌++◌, Bool, true, false, ◌==◌, nat_lt, if◌then◌else◌, length, replicate, Option, Some, None}
use Rattle.defs_text.specs.Classes.{tab}
use Rattle.defs_text.specs.FlowScalar.{begins_with}
use Rattle.defs_text.specs.Position.{Position, first_position, position_after}
use Rattle.defs_token.specs.Token.{Tok, Token, stream_start, stream_end, block_sequence_start, block_mapping_start, block_end, flow_mapping_start, flow_mapping_end, block_entry, key, scalar, literal, folded}
use Rattle.defs_token.specs.BlockPiece.{BlockRead, block_read, block_position}
use Rattle.defs_token.specs.Step.{Step, Row, spelled, Act, gives_dash, gives_question, gives_colon, gives_comma, gives_closing, act_of, blanks_and_comment}
use Rattle.defs_token.specs.Column.{is_deeper, innermost}
use Rattle.defs_token.specs.Key.{Line, free, begins_free_line, line_past_separation}
use Rattle.defs_token.specs.FlowEntry.{Pair, single_pair, Had, fresh, settled, Entry, takes_pair, begun_by}
use Rattle.defs_token.specs.RowAccount.{Site, Account, first_account, is_in_flow, site_at, account_past}

-- a token at a position
abbrev pub put : Position → Tok → Token
put p t = record { position = p; tok = t }

-- ---- positions

-- the position after blanks and a comment, which have no break
abbrev pub past_line_rest : Position → (next : List ℕ) → Position
past_line_rest p next = position_after p (blanks_and_comment next) []

-- Where the start of a single pair stands: after its colon, and if a TAB follows, after the blanks there and a comment.
abbrev pub pair_position : (past_colon : Position) → (next : List ℕ) → Position
pair_position p next = (if begins_with tab next then past_line_rest p next else p)

-- where the content of a block scalar begins, if it is one
abbrev pub content_position : Option BlockRead → Position → (piece next : List ℕ) → Position
content_position None p piece next = p
content_position (Some r) p piece next = block_position (r.column) p piece next

-- The position of the token that a piece at a site shows: where the piece begins. A dash's token stands after the blanks after it and a comment, a block scalar's where the content begins.
abbrev pub shown_position : Site → (piece : List ℕ) → Tok → (next : List ℕ) → Position
shown_position s piece block_entry next = past_line_rest (position_after s.position piece next) next
shown_position s piece (scalar literal text) next = content_position (block_read (innermost s.blocks) piece next) s.position piece next
shown_position s piece (scalar folded text) next = content_position (block_read (innermost s.blocks) piece next) s.position piece next
shown_position s piece _ next = s.position

-- ---- the colon of a key that waits

-- a colon: its position, the position after it, and the text after it
pub record Colon : Type 0 where
  pub here : Position
  pub past : Position
  pub next : List ℕ

-- a colon's piece at a position
abbrev pub colon_at : Position → (piece next : List ℕ) → Colon
colon_at here piece next = record { here = here; past = position_after here piece next; next = next }

-- how many flow collections are open inside a key after a piece
abbrev pub depth_past : Act → (begun : List Entry) → ℕ → ℕ
depth_past gives_closing begun zero = zero
depth_past gives_closing begun (suc n) = n
depth_past act [] n = n
depth_past act (e ∷ es) n = suc n

-- whether a colon ends a key: no flow collection is open inside the key
abbrev pub is_key_end : Act → (depth : ℕ) → Bool
is_key_end gives_colon zero = true
is_key_end act depth = false

-- The colon that ends a key: the first one after the key's first piece at which no flow collection is open inside the key.
abbrev pub colon_of : (depth : ℕ) → Position → List Step → (last : List ℕ) → Colon
colon_of depth p [] last = record { here = p; past = p; next = [] }
colon_of depth p (w ∷ ws) last =
    (if is_key_end (act_of w.shown) depth then
    colon_at (position_after p w.separation (w.piece ++ spelled ws last)) w.piece (spelled ws last) else
    colon_of (depth_past (act_of w.shown) (begun_by w.shown) depth) (position_after (position_after p w.separation (w.piece ++ spelled ws last)) w.piece (spelled ws last)) ws last)

-- the colon of the key that begins with a token's piece, which ends at a position; steps and a last separation after it
abbrev pub key_end : Tok → Position → List Step → (last : List ℕ) → Colon
key_end t p ws last = colon_of (depth_past (act_of t) (begun_by t) 0) p ws last

-- ---- tokens before the one that a piece shows

-- an end for each block collection that a piece at a position ends; those open before it, and those that go on
abbrev pub ends_at : Position → (before going_on : List ℕ) → List Token
ends_at p bs going_on = replicate (length bs - length going_on) (put p block_end)

-- a start of a block collection, where one begins
abbrev pub start_if : (begins : Bool) → Position → Tok → List Token
start_if true p t = put p t ∷ []
start_if false p t = []

-- an implicit key at a position, and before it the start of its collection, if one begins, at another position
abbrev pub key_tokens : (begins : Bool) → (start : Position) → Tok → (here : Position) → List Token
key_tokens begins start t here = start_if begins start t ++ (put here key ∷ [])

-- outside flow: the start of a block collection with its first dash, `?`, colon or implicit key
abbrev pub begun_outside : (deeper : Bool) → (here colon : Position) → Act → (key : Bool) → Option Line → List Token
begun_outside deeper here colon act true l = key_tokens deeper colon block_mapping_start here
begun_outside deeper here colon gives_dash false l = start_if deeper here block_sequence_start
begun_outside deeper here colon gives_question false l = start_if deeper here block_mapping_start
begun_outside deeper here colon gives_colon false (Some free) = start_if deeper here block_mapping_start
begun_outside deeper here colon act false l = []

-- the end of a single pair, if an entry has one
abbrev pub pair_end : Position → Pair → List Token
pair_end p single_pair = put p flow_mapping_end ∷ []
pair_end p _ = []

-- in flow: the start of a single pair with its implicit key, or directly before its colon, and its end
abbrev pub begun_inside : (single : Bool) → Pair → (here colon own_colon : Position) → Act → (key : Bool) → Had → List Token
begun_inside single pair here colon own act true h = key_tokens single colon flow_mapping_start here
begun_inside single pair here colon own gives_colon false fresh = start_if single own flow_mapping_start
begun_inside single pair here colon own gives_colon false settled = start_if single own flow_mapping_start
begun_inside single pair here colon own gives_comma false h = pair_end here pair
begun_inside single pair here colon own gives_closing false h = pair_end here pair
begun_inside single pair here colon own act false h = []

-- the tokens that a piece at a site stands for, before the one it shows
abbrev pub tokens_before : (before at : Site) → (past : Position) → Colon → Step → (next : List ℕ) → Line → List Entry → List Token
tokens_before before at past colon w next l [] =
    ends_at at.position before.blocks at.blocks ++
    begun_outside (is_deeper at.position.col at.blocks) at.position colon.here (act_of w.shown) w.key (line_past_separation false (begins_free_line before.before w.separation) l)
tokens_before before at past colon w next l (e ∷ es) =
    begun_inside (takes_pair e.kind e.pair) e.pair at.position (pair_position colon.past colon.next) (pair_position past next) (act_of w.shown) w.key e.had

-- ---- the tokens of a row

-- the tokens of a step whose piece stands at a site; the steps after it
abbrev pub tokens_at : (before at : Site) → Step → List Step → (last : List ℕ) → Line → List Entry → List Token
tokens_at before at w ws last l es =
    tokens_before before at (position_after at.position w.piece (spelled ws last)) (key_end w.shown (position_after at.position w.piece (spelled ws last)) ws last) w (spelled ws last) l es ++
    (put (shown_position at w.piece w.shown (spelled ws last)) w.shown ∷ [])

-- the tokens of a step
abbrev pub tokens_of_step : Account → Step → List Step → (last : List ℕ) → List Token
tokens_of_step a w ws last = tokens_at a.site (site_at (is_in_flow a.entries) a.site w.separation w.piece w.shown (spelled ws last)) w ws last a.line a.entries

-- Where the stream ends: where a line begins after the whole text.
abbrev pub stream_position : (end : Position) → Position
stream_position end = (if end.col == 0 then end else record { index = end.index; line = suc end.line; col = 0 })

-- at the text's end: the block collections that are deeper than its column end there, the others with the stream
abbrev pub ends_with_stream : (end : Position) → List ℕ → List Token
ends_with_stream end [] = []
ends_with_stream end (n ∷ ns) = put (if nat_lt end.col n then end else stream_position end) block_end ∷ ends_with_stream end ns

-- outside flow all of them end
abbrev pub tokens_at_end : (end : Position) → List ℕ → List Entry → List Token
tokens_at_end end bs [] = ends_with_stream end bs ++ (put (stream_position end) stream_end ∷ [])
tokens_at_end end bs (e ∷ es) = put (stream_position end) stream_end ∷ []

-- the tokens from an account on
abbrev pub tokens_from : Option Account → List Step → (last : List ℕ) → List Token
tokens_from None ws last = []
tokens_from (Some a) [] last = tokens_at_end (position_after a.site.position last []) a.site.blocks a.entries
tokens_from (Some a) (w ∷ ws) last = tokens_of_step a w ws last ++ tokens_from (account_past a w (spelled ws last)) ws last

-- The tokens of a row, from the stream's start to its end.
abbrev pub tokens_of_row : Row → List Token
tokens_of_row r = put first_position stream_start ∷ tokens_from (Some first_account) r.steps r.last
