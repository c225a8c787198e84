-- The next token, by its first characters.
use Rattle.std.specs.Prelude.{ℕ, ◌+◌, List, Bool, ◌==◌, ◌&&◌, ◌||◌, nat_lt, if◌then◌else◌, slice_index, Result, Ok, Err}
use Rattle.yaml_chars.specs.Class.{is_blank_or_breakz, is_flow}
use Rattle.defs_token.specs.Token.{Tok}
use Rattle.yaml_tokens.specs.declared.problem.Fault.{Fault}
use Rattle.yaml_tokens.specs.declared.problem.Fault.TheVariants.{At}
use Rattle.yaml_tokens.specs.declared.problem.Problem.TheVariants as problem
use Rattle.model_scanner.specs.declared.class.Class.{Class}
use Rattle.model_scanner.specs.declared.class.Class.TheVariants as class
use Rattle.model_scanner.specs.declared.kind.NameKind.TheVariants.{Alias, Anchor}
use Rattle.model_scanner.specs.declared.kind.Quotes.TheVariants.{Single, Double}
use Rattle.model_scanner.specs.declared.kind.BlockStyle.TheVariants.{Literal, Folded}
use Rattle.model_scanner.specs.declared.kind.Collection.TheVariants.{Sequence, Mapping}
use Rattle.model_scanner.specs.Class.{class_of}
use Rattle.model_scanner.specs.State.{ScannerState, ◌>>=◌, peek, in_flow, on_held, try_held}
use Rattle.model_scanner.specs.Keys.{stale}
use Rattle.model_scanner.specs.Indents.{unroll_indent}
use Rattle.model_scanner.specs.Space.{skip_to_next_token}
use Rattle.model_scanner.specs.Flow.{fetch_flow_collection_start, fetch_flow_collection_end, fetch_flow_entry}
use Rattle.model_scanner.specs.Block.{fetch_block_entry, fetch_key, fetch_value}
use Rattle.model_scanner.specs.Document.{fetch_stream_start, fetch_stream_end, fetch_directive, fetch_document_marker, fetch_document_end, fetch_anchor, fetch_tag, fetch_block_scalar, fetch_flow_scalar, fetch_plain_scalar}

-- the character after the next one
abbrev pub second : ScannerState → ℕ
second t = slice_index t.rest 1

-- Whether a `:` here is the indicator of a value.
unfoldable pub is_value : ScannerState → Bool
is_value t = is_blank_or_breakz (second t) || (in_flow t.held && (is_flow (second t) || (t.held.position.index == t.held.adjacent_value_at)))

abbrev pub token_by : Class → ScannerState → Result ScannerState Fault
token_by class.OpenBracket t = fetch_flow_collection_start Sequence t
token_by class.OpenBrace t = fetch_flow_collection_start Mapping t
token_by class.CloseBracket t = fetch_flow_collection_end Sequence t
token_by class.CloseBrace t = fetch_flow_collection_end Mapping t
token_by class.Comma t = fetch_flow_entry t
token_by class.Dash t = (if is_blank_or_breakz (second t) then fetch_block_entry t else fetch_plain_scalar t)
token_by class.Question t = (if is_blank_or_breakz (second t) then fetch_key t else fetch_plain_scalar t)
token_by class.Colon t = (if is_value t then fetch_value t else fetch_plain_scalar t)
token_by class.Asterisk t = fetch_anchor Alias t
token_by class.Ampersand t = fetch_anchor Anchor t
token_by class.Exclamation t = fetch_tag t
token_by class.Bar t = (if in_flow t.held then fetch_plain_scalar t else fetch_block_scalar Literal t)
token_by class.Greater t = (if in_flow t.held then fetch_plain_scalar t else fetch_block_scalar Folded t)
token_by class.SingleQuote t = fetch_flow_scalar Single t
token_by class.DoubleQuote t = fetch_flow_scalar Double t
token_by class.Percent t = Err (At problem.UnexpectedPercent t.held.position)
token_by class.AtSign t = Err (At problem.UnexpectedAt t.held.position)
token_by class.Backtick t = Err (At problem.UnexpectedBacktick t.held.position)
token_by _ t = fetch_plain_scalar t

unfoldable pub fetch_token : ScannerState → Result ScannerState Fault
fetch_token t = token_by (class_of (peek t.rest)) t

-- whether three of a character and then a blank, a break or the end come
unfoldable pub comes_marker : ℕ → List ℕ → Bool
comes_marker c a = (slice_index a 0 == c) && (slice_index a 1 == c) && (slice_index a 2 == c) && is_blank_or_breakz (slice_index a 3)

-- What does not begin at a line's first column must not stand left of the innermost block collection.
unfoldable pub fetch_indented : ScannerState → Result ScannerState Fault
fetch_indented t = (if nat_lt (t.held.position.col + 1) t.held.indent then Err (At problem.InvalidIndentation t.held.position) else fetch_token t)

-- what begins at a line's first column
unfoldable pub fetch_first_column : ScannerState → Result ScannerState Fault
fetch_first_column t =
    (if peek t.rest == 37 then fetch_directive t else
    (if comes_marker 45 t.rest then fetch_document_marker Tok.document_start t else
    (if comes_marker 46 t.rest then fetch_document_end t else fetch_indented t)))

unfoldable pub fetch_content : ScannerState → Result ScannerState Fault
fetch_content t = (if t.held.position.col == 0 then fetch_first_column t else fetch_indented t)

-- a token of a text that goes on, or the stream's end
unfoldable pub fetch_here : ScannerState → Result ScannerState Fault
fetch_here t = (if peek t.rest == 0 then fetch_stream_end t else fetch_content t)

-- The next token, after what stands before it and the ends of block collections.
unfoldable pub fetch_next : ScannerState → Result ScannerState Fault
fetch_next t =
    skip_to_next_token t >>= λ u.
    try_held stale u >>= λ v.
    fetch_here (on_held (λ s. unroll_indent (s.position.col + 1) s) v) >>= λ w.
    try_held stale w

-- One call of the scanner: a token more, or several.
unfoldable pub fetch : ScannerState → Result ScannerState Fault
fetch t = (if t.held.started then fetch_next t else Ok (fetch_stream_start t))
