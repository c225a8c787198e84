-- The least column of what belongs to a block collection; no TAB indents a line. YAML 1.2, sections 5.5 (white space), 6.1 (indentation), 8.2.
-- Two further rules on TABs stand elsewhere: no TAB indents a further line of a scalar (`Lines`), and none begins the line after a block scalar's header (`Following`).
use Rattle.std.specs.Prelude.{ℕ, suc, List, [], ◌∷◌, Bool, true, false, ◌&&◌, ◌||◌, ◌==◌, not, if◌then◌else◌, take}
use Rattle.defs_text.specs.Classes.{space, tab, is_one_of, is_blank, is_break, is_flow, is_alpha, is_at_gap}
use Rattle.defs_text.specs.Breaks.{split}
use Rattle.defs_text.specs.FlowScalar.{begins_with}
use Rattle.defs_text.specs.Tags.{leading, after}
use Rattle.defs_token.specs.Token.{Tok, flow_sequence_start, flow_mapping_start, block_entry, key, value, scalar, plain, literal, folded}
use Rattle.defs_text.specs.Text.{is_empty}
use Rattle.defs_token.specs.Step.{act_of, is_marker, Previous, plain_scalar, block_scalar, has_break, past_blanks_and_comment}
use Rattle.defs_token.specs.Column.{is_deeper}

-- ---- the least column

-- The least column of what belongs to the innermost collection: its own, and one more while the value of an entry is awaited.
abbrev pub least_column : List ℕ → (awaits : Bool) → ℕ
least_column [] awaits = 0
least_column (n ∷ ns) awaits = (if awaits then suc n else n)

-- A value is awaited no longer at a piece outside flow that is not deeper than the innermost collection.
abbrev pub awaits_at : (in_flow : Bool) → (column : ℕ) → List ℕ → (awaits : Bool) → Bool
awaits_at true column bs awaits = awaits
awaits_at false column bs awaits = awaits && is_deeper column bs

-- whether a text goes on with a break or a flow indicator
abbrev pub is_at_break_or_flow : List ℕ → Bool
is_at_break_or_flow [] = false
is_at_break_or_flow (c ∷ r) = is_break c || is_flow c

-- Whether the value of an entry is awaited after a piece outside flow.
-- From its colon on; from a dash on, if after blanks and a comment the line ends or a flow indicator stands there; from a bracket that opens in a block collection. A plain or a block scalar is the value.
abbrev pub awaits_in_block : Tok → List ℕ → (awaits : Bool) → (next : List ℕ) → Bool
awaits_in_block value bs awaits next = true
awaits_in_block block_entry bs awaits next = is_at_break_or_flow (past_blanks_and_comment next)
awaits_in_block flow_sequence_start bs awaits next = not (is_empty bs)
awaits_in_block flow_mapping_start bs awaits next = not (is_empty bs)
awaits_in_block key bs awaits next = false
awaits_in_block (scalar plain text) bs awaits next = false
awaits_in_block (scalar literal text) bs awaits next = false
awaits_in_block (scalar folded text) bs awaits next = false
awaits_in_block t bs awaits next = awaits && not (is_marker (act_of t))

-- the same in flow: only a plain scalar changes it
abbrev pub awaits_in_flow : Tok → (awaits : Bool) → Bool
awaits_in_flow (scalar plain text) awaits = false
awaits_in_flow _ awaits = awaits

-- whether the value of an entry is awaited after a piece
abbrev pub awaits_past : (in_flow : Bool) → Tok → List ℕ → (awaits : Bool) → (next : List ℕ) → Bool
awaits_past true t bs awaits next = awaits_in_flow t awaits
awaits_past false t bs awaits next = awaits_in_block t bs awaits next

-- ---- TABs that indent a line

-- whether a TAB is among so many first characters of a text
abbrev pub has_tab_within : (columns : ℕ) → List ℕ → Bool
has_tab_within columns text = is_one_of (take columns text) tab

-- the last line of a text
abbrev pub last_line : List ℕ → List ℕ
last_line text = (split text).last

-- whether a separation follows a plain scalar, and no comment stands in it: as far as TABs go, its lines still belong to the scalar
abbrev pub follows_plain : Previous → (separation : List ℕ) → Bool
follows_plain plain_scalar separation = not (is_one_of separation 35)
follows_plain _ separation = false

-- whether the line of a piece begins in the separation before it; a block scalar ends with a break
abbrev pub begins_line : Previous → (separation : List ℕ) → Bool
begins_line block_scalar separation = true
begins_line _ separation = has_break separation

-- No TAB indents the line of a piece: none stands before the least column. After a plain scalar and no comment the least column is that of a value.
abbrev pub is_indented_by_spaces : Previous → List ℕ → (awaits : Bool) → (separation : List ℕ) → Bool
is_indented_by_spaces before bs awaits separation =
    not (begins_line before separation) || not (has_tab_within (least_column bs (awaits || follows_plain before separation)) (last_line separation))

-- ---- TABs between pieces

-- whether a TAB stands outside comments before the next piece; after `?` none does
abbrev pub has_tab_before_piece : (in_comment : Bool) → (next : List ℕ) → Bool
has_tab_before_piece in_comment [] = false
has_tab_before_piece true (c ∷ r) = has_tab_before_piece (not (is_break c)) r
has_tab_before_piece false (c ∷ r) = (c == tab) || (((c == space) || is_break c || (c == 35)) && has_tab_before_piece (c == 35) r)

-- whether a text is a dash that begins an entry
abbrev pub begins_entry : List ℕ → Bool
begins_entry [] = false
begins_entry (c ∷ r) = (c == 45) && is_at_gap r

-- Between two dashes on one line stands no TAB: it would indent the inner sequence. Section 8.2.1.
abbrev pub dash_may_precede : (next : List ℕ) → Bool
dash_may_precede next = not (is_one_of (leading is_blank next) tab && begins_entry (after is_blank next))

-- whether a text begins with a letter, a digit, `-` or `_`
abbrev pub begins_with_alpha : List ℕ → Bool
begins_with_alpha [] = false
begins_with_alpha (c ∷ r) = is_alpha c

-- TABs alone do not part a colon from a letter, a digit, `-` or `_`. Ours: the original refuses that, for it might be meant as indentation.
abbrev pub colon_may_precede : (next : List ℕ) → Bool
colon_may_precede next = not (begins_with tab next && not (is_one_of (leading is_blank next) space) && begins_with_alpha (after is_blank next))
