-- The conditions of a cut and of a row at their limits, by computing: what is allowed and what is not.
use Rattle.defs_token.proofs.Common.{[], Account, all_of, anchor, before_past, begins_node, begins_plain, begins_with_space_or_break, block_position, block_read, BlockStyle, Bool, codes, collection, ends_entry, false, first_account, flow_entry, flow_sequence_end, FlowKind, goes_on_with_name, has_open_pair, has_room, is_closed, is_name, is_separation, is_value_indicator, is_whole_plain, Level, levels_past, List, mapping, None, not, other, position_after, quoted, replicate, sequence, settled, Some, stream_end, takes_pair, true, up_to_nul, value, ◌++◌, ◌∷◌, ◌≡◌}
use Rattle.defs_token.specs.Column.{not_ended, opened}
use Rattle.defs_token.specs.Indentation.{least_column}
use Rattle.defs_token.specs.Key.{is_near}
use Rattle.defs_token.proofs.OnLiterals.{cut_on_literals}
use Rattle.defs_token.proofs.Shown.{position, first}

-- a flow level
abbrev level : FlowKind → (pair : Bool) → Level
level k p = record { kind = k; pair = p }

-- an account in which flow levels are open
abbrev inside : List Level → Account
inside ls = record first_account { levels = ls }

record Limits : Type 0 where
  ends_at_nul : up_to_nul (codes "ab" ++ 0 ∷ codes "c") ≡ codes "ab"  -- a text ends at its first NUL
  positions : position_after first (codes "a\r\nb\rc\nd") [] ≡ position 8 4 1  -- CR LF ends one line, CR and LF one each
  split_break : position_after first (codes "\r") (codes "\n") ≡ position 1 1 1  -- also where it is split
  line_separator : position_after first (0x2028 ∷ []) [] ≡ position 1 1 1  -- U+2028 ends no line
  separation : is_separation false (codes "\t\r\n # a #b\n ") (codes "x") ≡ true  -- blanks, breaks and a comment
  comment_at_end : is_separation false (codes "# a") [] ≡ true  -- a comment up to the end
  comment_open : is_separation false (codes "# a") (codes "b") ≡ false  -- a comment before other text
  no_separation : is_separation false (codes " a") [] ≡ false  -- a letter is no separation
  -- whether a colon is an indicator: in flow or not, next to what takes one or not
  colon_blank : is_value_indicator false false (codes " a") ≡ true  -- a colon before a blank
  colon_text : is_value_indicator true false (codes "a") ≡ false  -- before text
  colon_flow : is_value_indicator true false (codes ",") ≡ true  -- before a flow indicator, in flow
  colon_flow_outside : is_value_indicator false false (codes ",") ≡ false  -- outside flow
  colon_adjacent : is_value_indicator true true (codes "a") ≡ true  -- next to a quoted scalar, in flow
  colon_adjacent_outside : is_value_indicator false true (codes "a") ≡ false  -- outside flow
  adjacent_blanks : before_past collection (codes " \t") ≡ collection  -- a flow collection and blanks before a colon
  adjacent_break : before_past collection (codes "\n") ≡ other  -- a flow collection and a break
  adjacent_quoted : before_past quoted (codes "\n") ≡ quoted  -- a quoted scalar and a break
  -- where a plain scalar begins: in flow or not, next to what takes a colon or not, in which column
  dash_text : begins_plain false false 0 (codes "-a") ≡ true  -- a dash before text
  dash_blank : begins_plain false false 0 (codes "- a") ≡ false  -- before a blank
  dash_flow : begins_plain true false 1 (codes "-,") ≡ false  -- before a flow indicator, in flow
  dash_flow_outside : begins_plain false false 1 (codes "-,") ≡ true  -- outside flow
  question_text : begins_plain false false 0 (codes "?a") ≡ true  -- a question mark before text
  question_blank : begins_plain true false 0 (codes "? a") ≡ false  -- before a blank
  colon_begins : begins_plain true false 2 (codes ":a") ≡ true  -- a colon before text
  colon_next : begins_plain true true 2 (codes ":a") ≡ false  -- next to a quoted scalar
  bar : begins_plain false false 0 (codes "|a") ≡ false  -- a vertical bar outside flow
  bar_in_flow : begins_plain true false 1 (codes "|a") ≡ true  -- in flow
  marker : begins_plain false false 0 (codes "--- a") ≡ false  -- a document marker
  marker_column : begins_plain false false 1 (codes "...") ≡ true  -- in another column
  four_dashes : begins_plain false false 0 (codes "----") ≡ true  -- four dashes
  -- no plain scalar begins with one of these characters
  no_indicator : all_of (λ c. not (begins_plain false false 0 (c ∷ codes "a"))) (codes "%@`#&*!'[},") ≡ true
  -- what is a whole plain scalar: in flow or not, by the column of its collection, and before which text
  at_end : is_whole_plain false None (codes "a b") (codes "") ≡ true  -- up to the end
  short : is_whole_plain false None (codes "a") (codes " b") ≡ false  -- not up to its end
  trailing_blank : is_whole_plain false None (codes "a ") (codes "") ≡ false  -- a blank at its end does not belong to it
  colon : is_whole_plain false None (codes "a") (codes ": b") ≡ true  -- up to a colon before a blank
  over_colon : is_whole_plain false None (codes "a: b") (codes "") ≡ false  -- over it
  inner_colon : is_whole_plain false None (codes "a:b") (codes "") ≡ true  -- over a colon before text
  comment : is_whole_plain false None (codes "a") (codes " # b") ≡ true  -- up to a comment
  inner_hash : is_whole_plain false None (codes "a#b") (codes "") ≡ true  -- over a `#` after a letter
  comment_line : is_whole_plain false (Some 0) (codes "a") (codes "\n\t# b") ≡ true  -- up to a comment on a later line after a TAB
  second_line : is_whole_plain false (Some 0) (codes "a\n b") (codes "") ≡ true  -- over a line that is deeper than the collection
  line_not_deeper : is_whole_plain false (Some 0) (codes "a") (codes "\nb") ≡ true  -- up to one that is not
  -- where no collection is open every line is deeper
  line_no_collection : is_whole_plain false None (codes "a") (codes "\nb") ≡ false
  flow_line : is_whole_plain true (Some 0) (codes "a\nb") (codes "]") ≡ true  -- in flow every line belongs to it
  flow_comma : is_whole_plain true None (codes "a") (codes ",b") ≡ true  -- in flow up to a comma
  block_comma : is_whole_plain false None (codes "a,b") (codes "") ≡ true  -- outside flow over it
  flow_colon : is_whole_plain true None (codes "a") (codes ":]") ≡ true  -- in flow up to a colon before a flow indicator
  marker_line : is_whole_plain false None (codes "a") (codes "\n--- b") ≡ true  -- up to a document marker
  over_marker : is_whole_plain false None (codes "a\n---") (codes "") ≡ false  -- not over it
  dashes_line : is_whole_plain false None (codes "a\n---b") (codes "") ≡ true  -- over dashes that are none
  room_254 : has_room (inside (replicate 254 (level sequence false))) ≡ true  -- 254 open flow collections leave room for one
  room_255 : has_room (inside (replicate 255 (level sequence false))) ≡ false  -- 255 leave none
  pair_in_sequence : takes_pair (inside (level sequence false ∷ [])) ≡ true  -- a pair may begin in a sequence
  pair_in_mapping : takes_pair (inside (level mapping false ∷ [])) ≡ false  -- not in a mapping
  pair_in_pair : takes_pair (inside (level sequence true ∷ [])) ≡ false  -- not in a pair
  pair_outside : takes_pair first_account ≡ false  -- not outside flow
  -- a pair of the outer level is none of the inner
  pair_of_level : has_open_pair (inside (level sequence false ∷ level sequence true ∷ [])) ≡ false
  closing_nothing : levels_past [] (codes "]") flow_sequence_end ≡ []  -- a closing bracket where no flow collection is open
  closed : is_closed first_account ≡ true  -- no block collection is open
  not_closed : is_closed (record first_account { blocks = Some 0 ∷ [] }) ≡ false  -- one is
  -- in flow one may be
  closed_in_flow : is_closed (record first_account { blocks = Some 0 ∷ []; levels = level sequence false ∷ [] }) ≡ true
  settles : settled 3 (None ∷ Some 1 ∷ []) ≡ Some 3 ∷ Some 1 ∷ []  -- a block collection has the column of its first piece
  node_follows : begins_node (Some (anchor (codes "a"))) ≡ true  -- an anchor begins a node
  no_node_follows : begins_node (Some value) ≡ false  -- a value indicator does not
  comma_ends : ends_entry (Some flow_entry) ≡ true  -- a comma ends an entry
  stream_end_ends_none : ends_entry (Some stream_end) ≡ false  -- the end of the stream does not
  key_tab : begins_with_space_or_break (codes "\ta") ≡ false  -- no key is indicated before a TAB
  key_end : begins_with_space_or_break [] ≡ false  -- nor before the end
  key_break : begins_with_space_or_break (codes "\na") ≡ true  -- it is before a break
  empty_name : is_name [] ≡ false  -- an empty name is none
  name_colon : is_name (codes "a:b") ≡ true  -- a colon belongs to a name
  name_goes_on : goes_on_with_name (codes "b") ≡ true  -- a name goes on
  name_ends : goes_on_with_name (codes ",") ≡ false  -- and ends before a flow indicator
  -- a block scalar before further text
  block : block_read (Some 0) (codes "|\n  a\n") (codes "b") ≡ Some (record { style = BlockStyle.literal; column = 2; text = codes "a\n" })
  block_short : block_read (Some 0) (codes "|\n  a\n") (codes "  b\n") ≡ None  -- not all of its lines
  block_empty_left : block_read (Some 0) (codes "|\n  a\n") (codes "\nb") ≡ None  -- nor an empty line left after
  block_unbroken : block_read (Some 0) (codes "|\n  a") (codes "\nb") ≡ None  -- its last break belongs to it
  block_too_long : block_read (Some 0) (codes "|\n  a\nb\n") (codes "") ≡ None  -- a line that is none of its own
  -- a document marker after one in column 0
  block_marker : block_read None (codes ">\na\n") (codes "---") ≡ Some (record { style = BlockStyle.folded; column = 0; text = codes "a\n" })
  -- a header at the end
  block_header : block_read (Some 0) (codes "|+") (codes "") ≡ Some (record { style = BlockStyle.literal; column = 0; text = codes "" })
  -- its position is that of its content, whose further spaces belong to it
  content_position : block_position 1 first (codes "|1\n\n  a\n") [] ≡ position 5 3 1
  content_position_text : block_position 2 first (codes "|\n\n") (codes " b") ≡ position 4 3 1  -- or of the further text
  near : is_near (position 5 1 5) (position 1029 1 1029) ≡ true  -- a colon 1024 characters after its key's start
  far : is_near (position 5 1 5) (position 1030 1 1030) ≡ false  -- one character further
  goes_on : not_ended 2 (4 ∷ 2 ∷ 0 ∷ []) ≡ 2 ∷ 0 ∷ []  -- a piece ends the collections deeper than its column, and no other
  begins : opened 4 (2 ∷ 0 ∷ []) ≡ 4 ∷ 2 ∷ 0 ∷ []  -- one begins only in a deeper column
  joins : opened 2 (2 ∷ 0 ∷ []) ≡ 2 ∷ 0 ∷ []
  awaited : least_column (2 ∷ 0 ∷ []) true ≡ 3  -- a value lies deeper than its mapping; what is no value may lie in its column
  not_awaited : least_column (2 ∷ 0 ∷ []) false ≡ 2
  outside_blocks : least_column [] true ≡ 0

limits : Limits
unfolding cut_on_literals
limits = search
