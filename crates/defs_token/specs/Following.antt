-- What may follow a piece: what must be parted from it, and what may share its line.
-- YAML 1.2, sections 6.6 (comments), 7.3 (flow scalars), 8.1 (block scalars), 9.1.2 (document markers).
use Rattle.std.specs.Prelude.{ℕ, List, [], ◌∷◌, Bool, true, false, ◌&&◌, ◌||◌, not, nat_le, nat_lt, Option, Some, None, codes}
use Rattle.defs_text.specs.Classes.{tab, is_one_of, is_blank, is_at_end}
use Rattle.defs_text.specs.Breaks.{split, is_rest_of_line, touches_comment}
use Rattle.defs_text.specs.FlowScalar.{begins_with}
use Rattle.defs_text.specs.BlockScalar.{leading_spaces, is_empty_line}
use Rattle.defs_text.specs.Tags.{leading, after}
use Rattle.defs_token.specs.Token.{Tok, document_end, flow_sequence_start, flow_sequence_end, flow_mapping_start, flow_mapping_end, block_entry, flow_entry, key, value, scalar, plain, single_quoted, double_quoted, literal, folded}
use Rattle.defs_text.specs.Text.{is_empty}
use Rattle.defs_token.specs.BlockPiece.{BlockRead, block_read}
use Rattle.defs_token.specs.Step.{has_break, is_on_line}
use Rattle.defs_token.specs.Column.{innermost}
use Rattle.defs_token.specs.Indentation.{least_column, has_tab_before_piece, dash_may_precede, colon_may_precede}
use Rattle.defs_token.specs.Lines.{has_dash_before_flow}

-- whether the line holds no more: nothing, or after a blank blanks and a comment
abbrev pub line_is_done : (next : List ℕ) → Bool
line_is_done next = is_rest_of_line (leading is_on_line next)

-- ---- quoted scalars

-- whether a text begins with one of these characters
abbrev pub begins_with_one_of : List ℕ → List ℕ → Bool
begins_with_one_of cs [] = false
begins_with_one_of cs (c ∷ r) = is_one_of cs c

-- after a quoted scalar and blanks in flow: a comma, a closing bracket or a colon; outside flow a colon, if the scalar is on one line
abbrev pub goes_on_quoted : (in_flow : Bool) → (piece after_blanks : List ℕ) → Bool
goes_on_quoted true piece r = begins_with_one_of (codes ",]}:") r
goes_on_quoted false piece r = begins_with 58 r && not (has_break piece)

-- After a quoted scalar the line holds no more, or it goes on so.
abbrev pub quoted_may_end : (in_flow : Bool) → (piece next : List ℕ) → Bool
quoted_may_end in_flow piece next = line_is_done next || goes_on_quoted in_flow piece (after is_blank next)

-- ---- block scalars

-- whether each line is empty
abbrev pub are_empty : (column : ℕ) → List (List ℕ) → Bool
are_empty column [] = true
are_empty column (l ∷ ls) = is_empty_line column l && are_empty column ls

-- Before further text. The line after the header does not begin with a TAB. After a scalar without content the text is not both deeper than the block and before the content column.
abbrev pub lines_may_end : (collection : List ℕ) → (column : ℕ) → (lines : List (List ℕ)) → (next : List ℕ) → Bool
lines_may_end bs column [] next = true
lines_may_end bs column (header ∷ ls) next =
    not (is_empty ls && begins_with tab next) &&
    (not (are_empty column ls) || nat_lt (leading_spaces next) (least_column bs true) || nat_le column (leading_spaces next))

-- the same of a block scalar as read
abbrev pub read_may_end : (collection : List ℕ) → Option BlockRead → (piece next : List ℕ) → Bool
read_may_end bs None piece next = false
read_may_end bs (Some r) piece next = lines_may_end bs (r.column) ((split piece).complete) next

-- A block scalar ends at the text's end, or before further text that stands clear of it.
abbrev pub block_may_end : (collection : List ℕ) → (piece next : List ℕ) → Bool
block_may_end bs piece next = is_at_end next || read_may_end bs (block_read (innermost bs) piece next) piece next

-- ---- all

-- Whether a piece may stand before the text after it. A comment is parted by a blank from a bracket or a comma; after `...` the line holds no more; the rest stands above, and with the TABs.
abbrev pub may_precede : (in_flow : Bool) → (collection : List ℕ) → Tok → (piece next : List ℕ) → Bool
may_precede in_flow bs flow_sequence_start piece next = not (touches_comment next)
may_precede in_flow bs flow_mapping_start piece next = not (touches_comment next)
may_precede in_flow bs flow_sequence_end piece next = not (touches_comment next)
may_precede in_flow bs flow_mapping_end piece next = not (touches_comment next)
may_precede in_flow bs flow_entry piece next = not (touches_comment next)
may_precede in_flow bs (scalar plain text) piece next = not (in_flow && has_dash_before_flow piece next)
may_precede in_flow bs (scalar single_quoted text) piece next = quoted_may_end in_flow piece next
may_precede in_flow bs (scalar double_quoted text) piece next = quoted_may_end in_flow piece next
may_precede in_flow bs (scalar literal text) piece next = block_may_end bs piece next
may_precede in_flow bs (scalar folded text) piece next = block_may_end bs piece next
may_precede in_flow bs document_end piece next = line_is_done next
may_precede in_flow bs key piece next = not (has_tab_before_piece false next)
may_precede in_flow bs block_entry piece next = dash_may_precede next
may_precede in_flow bs value piece next = colon_may_precede next
may_precede in_flow bs _ piece next = true
