-- Streams and documents (YAML 1.2, chapter 9), and the tokens of nodes.
use Rattle.std.specs.Prelude.{ℕ, ◌+◌, ◌∷◌, Bool, true, false, ◌==◌, ◌&&◌, ◌||◌, if◌then◌else◌, None, Result, Ok, Err}
use Rattle.defs_text.specs.Position.{Position}
use Rattle.yaml_chars.specs.Class.{is_breakz}
use Rattle.defs_token.specs.Token.{Style, Tok}
use Rattle.yaml_tokens.specs.declared.problem.Fault.{Fault}
use Rattle.yaml_tokens.specs.declared.problem.Fault.TheVariants.{At}
use Rattle.yaml_tokens.specs.declared.problem.Problem.TheVariants as problem
use Rattle.model_scanner.specs.declared.context.Context.{Context}
use Rattle.model_scanner.specs.declared.context.SkipTabs.TheVariants.{Yes}
use Rattle.model_scanner.specs.declared.kind.NameKind.{NameKind}
use Rattle.model_scanner.specs.declared.kind.Quotes.{Quotes}
use Rattle.model_scanner.specs.declared.kind.BlockStyle.{BlockStyle}
use Rattle.model_scanner.specs.Kinds.{anchor_token, are_single, quoted_style, is_literal, block_style}
use Rattle.model_scanner.specs.Plain.{plain}
use Rattle.model_scanner.specs.Quoted.{quoted}
use Rattle.model_scanner.specs.Anchor.{anchor_name}
use Rattle.model_scanner.specs.BlockScalar.{block}
use Rattle.model_scanner.specs.Directive.{directive}
use Rattle.model_scanner.specs.Tag.{tag}
use Rattle.model_scanner.specs.State.{Held, ScannerState, ◌>>=◌, peek, in_flow, push, on_held, try_held, lexed, skip_indicator}
use Rattle.model_scanner.specs.Keys.{cleared, has_required, save_implicit_key, remove_implicit_key}
use Rattle.model_scanner.specs.Indents.{unroll_indent, unroll_non_block_indents}
use Rattle.model_scanner.specs.Space.{skip_to_next_token, skip_spaces}
use Rattle.model_scanner.specs.Flow.{allow_key}

-- the stream's start, and what may be a key outside flow
abbrev pub begin_stream : Held → Held
begin_stream s = record (push s.position Tok.stream_start s) { keys = None ∷ s.keys; key_allowed = true; started = true }

unfoldable pub fetch_stream_start : ScannerState → ScannerState
fetch_stream_start t = on_held begin_stream t

-- the beginning of the next line, where the text ended within a line
abbrev pub next_line : Position → Position
next_line p = (if p.col == 0 then p else record p { line = p.line + 1; col = 0 })

abbrev pub ended_at : Held → Held
ended_at s = record (push s.position Tok.stream_end s) { key_allowed = false; ended = true }

abbrev pub end_stream : Held → Result Held Fault
end_stream s = (if has_required s.keys then Err (At problem.KeyExpected s.position) else Ok (ended_at (unroll_indent 0 (record s { keys = cleared s.keys }))))

unfoldable pub fetch_stream_end : ScannerState → Result ScannerState Fault
fetch_stream_end t = try_held (λ s. end_stream (record s { position = next_line s.position })) t

abbrev pub closed_key : Result Held Fault → Result Held Fault
closed_key (Ok s) = Ok (allow_key false s)
closed_key (Err f) = Err f

-- A directive or a document marker ends all collections.
unfoldable pub begin_line : Held → Result Held Fault
begin_line s = closed_key (remove_implicit_key (unroll_indent 0 s))

-- `%`
unfoldable pub fetch_directive : ScannerState → Result ScannerState Fault
fetch_directive t =
    try_held begin_line t >>= λ u.
    lexed (directive u.rest u.held.position) u.held (λ tok v. Ok (on_held (λ s. push t.held.position tok (record s { leading = true })) v))

-- `---` or `...`
unfoldable pub fetch_document_marker : Tok → ScannerState → Result ScannerState Fault
fetch_document_marker tok t =
    try_held begin_line t >>= λ u.
    Ok (on_held (push t.held.position tok) (skip_indicator (skip_indicator (skip_indicator u))))

unfoldable pub check_document_end : ScannerState → Result ScannerState Fault
check_document_end t = (if is_breakz (peek t.rest) then Ok t else Err (At problem.ContentAfterDocumentEnd t.held.position))

-- `...`, after which the line has no content.
unfoldable pub fetch_document_end : ScannerState → Result ScannerState Fault
fetch_document_end t = fetch_document_marker Tok.document_end t >>= λ u. skip_spaces Yes u >>= λ v. check_document_end v

abbrev pub unled : Held → Held
unled s = record s { leading = false }

-- what the start of a scalar, an anchor or a tag leaves
abbrev pub node_start : Held → Held
node_start s = allow_key false (save_implicit_key s)

-- `*name` or `&name`
unfoldable pub fetch_anchor : NameKind → ScannerState → Result ScannerState Fault
fetch_anchor kind t = lexed (anchor_name t.rest t.held.position) (node_start t.held) (λ name u. Ok (on_held (λ s. push t.held.position (anchor_token kind name) (unled s)) u))

-- `!`
unfoldable pub fetch_tag : ScannerState → Result ScannerState Fault
fetch_tag t = lexed (tag (in_flow t.held) t.rest t.held.position) (node_start t.held) (λ g u. Ok (on_held (λ s. push t.held.position (Tok.tag g.handle g.suffix) (unled s)) u))

-- `|` or `>`
unfoldable pub fetch_block_scalar : BlockStyle → ScannerState → Result ScannerState Fault
fetch_block_scalar style t =
    let h = unroll_non_block_indents (allow_key true (save_implicit_key t.held)) in
    lexed (block (is_literal style) h.indent t.rest t.held.position) h (λ b u. Ok (on_held (λ s. push b.position (Tok.scalar (block_style style) b.text) (record s { leading = true })) u))

abbrev pub context : Held → Context
context s = record { flow = in_flow s; indent = s.indent }

-- What may stand after a quoted scalar that began on a line.
unfoldable pub may_follow_quoted : Bool → Bool → ℕ → Bool
may_follow_quoted flow same_line c = is_breakz c || (if flow then (c == 44) || (c == 125) || (c == 93) || (c == 58) else (c == 58) && same_line)

unfoldable pub check_after_quoted : ℕ → ScannerState → Result ScannerState Fault
check_after_quoted line t =
    skip_spaces Yes t >>= λ u.
    (if may_follow_quoted (in_flow u.held) (line == u.held.position.line) (peek u.rest) then Ok u else Err (At problem.ContentAfterQuoted u.held.position))

-- A `:` may stand right after a quoted scalar that is a key, also on a later line.
abbrev pub adjacent_here : Held → Held
adjacent_here s = record s { adjacent_value_at = s.position.index }

-- `'` or `"`
unfoldable pub fetch_flow_scalar : Quotes → ScannerState → Result ScannerState Fault
fetch_flow_scalar quotes t =
    let h = node_start t.held in
    lexed (quoted (are_single quotes) (context h) t.rest t.held.position) h (λ text u.
    check_after_quoted t.held.position.line (on_held unled u) >>= λ v.
    skip_to_next_token v >>= λ w.
    Ok (on_held (λ s. push t.held.position (Tok.scalar (quoted_style quotes) text) (adjacent_here s)) w))

abbrev pub after_plain : Bool → Held → Held
after_plain leading s = record s { leading = leading; key_allowed = leading }

unfoldable pub fetch_plain_scalar : ScannerState → Result ScannerState Fault
fetch_plain_scalar t =
    let h = unroll_non_block_indents (node_start t.held) in
    lexed (plain (context h) t.rest t.held.position) h (λ r u. Ok (on_held (λ s. push t.held.position (Tok.scalar Style.plain r.text) (after_plain r.leading s)) u))
