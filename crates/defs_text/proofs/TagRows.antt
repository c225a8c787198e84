-- Tags, handles, URIs and directives, by computing.
use Rattle.std.proofs.Common.{◌≡◌, [], ◌∷◌, ◌++◌, true, false, Some, None, Ok, Err}
use Rattle.std.specs.Prelude.{codes}
use Rattle.defs_text.specs.Classes.{is_blank, is_break, is_nul, is_blank_or_end, is_flow, is_decimal_digit, is_letter, is_alpha, is_uri, is_tag, is_anchor_name, are_marks, is_document_marker}
use Rattle.defs_text.specs.FlowScalar.{is_character_code}
use Rattle.defs_text.specs.Tags.{no_octet, wrong_lead, wrong_trail, no_character, octet_at, lead_of, is_trail, escaped_character, uri_character, decoded, is_handle, written_tag, prefix_of, resolved}
use Rattle.defs_text.specs.Directives.{version, tag_declaration, reserved, directive_of}

record OctetRows : Type 0 where
  -- U+00E9 in two octets
  two_octets : decoded (codes "tag:x%C3%A9") ≡ Ok (codes "tag:x" ++ 233 ∷ [])
  -- an octet below 80 is its own character
  one_octet : decoded (codes "%41b") ≡ Ok (codes "Ab")
  -- U+20AC in three
  three_octets : decoded (codes "%e2%82%ac") ≡ Ok (0x20AC ∷ [])
  -- U+1F600 in four
  four_octets : decoded (codes "%F0%9F%98%80") ≡ Ok (0x1F600 ∷ [])
  -- an overlong form of two octets
  overlong_two : decoded (codes "%C0%80") ≡ Err no_character
  -- an overlong form of three
  overlong_three : decoded (codes "%E0%9F%BF") ≡ Err no_character
  -- the least code of three octets
  least_three : decoded (codes "%E0%A0%80") ≡ Ok (0x800 ∷ [])
  -- an overlong form of four
  overlong_four : decoded (codes "%F0%8F%BF%BF") ≡ Err no_character
  -- a surrogate
  surrogate : decoded (codes "%ED%A0%80") ≡ Err no_character
  -- U+10FFFF
  last : decoded (codes "%F4%8F%BF%BF") ≡ Ok (0x10FFFF ∷ [])
  -- a code above it
  above : decoded (codes "%F4%90%80%80") ≡ Err no_character
  -- an octet with which no character begins
  lead_f8 : decoded (codes "%F8") ≡ Err wrong_lead
  -- a trailing octet alone
  trail_alone : decoded (codes "%80") ≡ Err wrong_lead
  -- an octet is due and another character stands there
  no_second : decoded (codes "%C3A") ≡ Err no_octet
  -- an octet with which no character goes on
  wrong_second : decoded (codes "%C3%41") ≡ Err wrong_trail
  -- one digit
  one_digit : decoded (codes "%4") ≡ Err no_octet

octet_rows : OctetRows
unfolding octet_at lead_of is_trail is_character_code escaped_character uri_character
octet_rows = search

record WrittenRows : Type 0 where
  -- a verbatim tag
  verbatim_tag : written_tag (codes "!<tag:x>") ≡ Some (record { handle = codes ""; suffix = codes "tag:x" })
  -- one that is not closed
  verbatim_open : written_tag (codes "!<tag:x") ≡ None
  -- the mark alone
  non_specific : written_tag (codes "!") ≡ Some (record { handle = codes ""; suffix = codes "!" })
  -- a local tag
  local : written_tag (codes "!s") ≡ Some (record { handle = codes "!"; suffix = codes "s" })
  -- the secondary handle
  secondary : written_tag (codes "!!int") ≡ Some (record { handle = codes "!!"; suffix = codes "int" })
  -- a handle of its own name
  own_handle : written_tag (codes "!h!s") ≡ Some (record { handle = codes "!h!"; suffix = codes "s" })
  -- an escape in a suffix
  escaped_suffix : written_tag (codes "!a!p%21") ≡ Some (record { handle = codes "!a!"; suffix = codes "p!" })
  -- a handle without a suffix
  no_suffix : written_tag (codes "!!") ≡ None
  -- a third mark
  mark_in_suffix : written_tag (codes "!a!b!c") ≡ None
  -- a flow indicator
  flow_in_suffix : written_tag (codes "!a,b") ≡ None
  -- a second mark after a character that is no name's
  name_not_alpha : written_tag (codes "!a:b!c") ≡ None

written_rows : WrittenRows
unfolding is_flow is_decimal_digit is_letter is_alpha is_uri is_tag octet_at lead_of is_trail is_character_code escaped_character uri_character
written_rows = search

record PrefixRows : Type 0 where
  -- of two declarations the later counts
  later_counts : resolved (record { handle = codes "!a!"; prefix = codes "x:" } ∷ record { handle = codes "!!"; prefix = codes "y:" } ∷ record { handle = codes "!a!"; prefix = codes "z:" } ∷ []) (record { handle = codes "!a!"; suffix = codes "s" }) ≡ Some (record { handle = codes "z:"; suffix = codes "s" })
  -- a declared secondary handle
  secondary_declared : resolved (record { handle = codes "!a!"; prefix = codes "x:" } ∷ record { handle = codes "!!"; prefix = codes "y:" } ∷ record { handle = codes "!a!"; prefix = codes "z:" } ∷ []) (record { handle = codes "!!"; suffix = codes "int" }) ≡ Some (record { handle = codes "y:"; suffix = codes "int" })
  -- and its default
  secondary_default : resolved [] (record { handle = codes "!!"; suffix = codes "int" }) ≡ Some (record { handle = codes "tag:yaml.org,2002:"; suffix = codes "int" })
  -- a local tag
  local_default : resolved (record { handle = codes "!a!"; prefix = codes "x:" } ∷ record { handle = codes "!!"; prefix = codes "y:" } ∷ record { handle = codes "!a!"; prefix = codes "z:" } ∷ []) (record { handle = codes "!"; suffix = codes "s" }) ≡ Some (record { handle = codes "!"; suffix = codes "s" })
  -- a verbatim tag
  verbatim_stays : resolved (record { handle = codes "!a!"; prefix = codes "x:" } ∷ record { handle = codes "!!"; prefix = codes "y:" } ∷ record { handle = codes "!a!"; prefix = codes "z:" } ∷ []) (record { handle = codes ""; suffix = codes "!" }) ≡ Some (record { handle = codes ""; suffix = codes "!" })
  -- a handle that is not declared
  undeclared : resolved (record { handle = codes "!a!"; prefix = codes "x:" } ∷ record { handle = codes "!!"; prefix = codes "y:" } ∷ record { handle = codes "!a!"; prefix = codes "z:" } ∷ []) (record { handle = codes "!b!"; suffix = codes "s" }) ≡ None

prefix_rows : PrefixRows
unfolding prefix_of
prefix_rows = search

record HandleRows : Type 0 where
  -- whether ! is a handle
  handle_1 : is_handle (codes "!") ≡ true
  -- whether !! is a handle
  handle_2 : is_handle (codes "!!") ≡ true
  -- whether !a-1_! is a handle
  handle_3 : is_handle (codes "!a-1_!") ≡ true
  -- whether !a is a handle
  handle_4 : is_handle (codes "!a") ≡ false
  -- whether !a.b! is a handle
  handle_5 : is_handle (codes "!a.b!") ≡ false

handle_rows : HandleRows
unfolding is_flow is_decimal_digit is_letter is_alpha is_uri is_tag octet_at lead_of is_trail is_character_code escaped_character uri_character
handle_rows = search

record DirectiveRows : Type 0 where
  -- a version
  yaml : directive_of (codes "%YAML 1.2") ≡ Some (version 1 2)
  -- with a comment after it
  yaml_comment : directive_of (codes "%YAML\t10.03 # c") ≡ Some (version 10 3)
  -- ten digits
  yaml_long : directive_of (codes "%YAML 1.1234567890") ≡ None
  -- nine digits
  yaml_nine : directive_of (codes "%YAML 1.123456789") ≡ Some (version 1 123456789)
  -- text after the version
  yaml_word : directive_of (codes "%YAML 1.2 a") ≡ None
  -- no version
  yaml_none : directive_of (codes "%YAML") ≡ None
  -- a declaration
  tag_line : directive_of (codes "%TAG !a! x:%41") ≡ Some (tag_declaration (codes "!a!") (codes "x:A"))
  -- a local prefix for the primary handle
  tag_local : directive_of (codes "%TAG ! !my-") ≡ Some (tag_declaration (codes "!") (codes "!my-"))
  -- a handle without its second mark
  tag_no_mark : directive_of (codes "%TAG !a x:") ≡ None
  -- no prefix
  tag_no_prefix : directive_of (codes "%TAG !a!") ≡ None
  -- a prefix that begins with a flow indicator
  tag_bad_prefix : directive_of (codes "%TAG !a! ,x") ≡ None
  -- a directive of another name
  other_name : directive_of (codes "%FOO bar, [baz") ≡ Some reserved
  -- a percent sign without a name
  no_name : directive_of (codes "% FOO") ≡ None
  -- a name that a colon ends
  bad_name : directive_of (codes "%FOO:") ≡ None

directive_rows : DirectiveRows
unfolding is_blank is_break is_nul is_blank_or_end is_flow is_decimal_digit is_letter is_alpha is_uri is_tag octet_at lead_of is_trail is_character_code escaped_character uri_character directive_of
directive_rows = search

record BreakRows : Type 0 where
  -- U+0085 is no break
  next_line_is_text : is_break 0x85 ≡ false
  -- U+2028 is no break
  separator_is_text : is_break 0x2028 ≡ false

break_rows : BreakRows
unfolding is_break
break_rows = search

record NameRows : Type 0 where
  -- a colon may stand in an anchor's name
  colon_in_anchor : is_anchor_name 58 ≡ true
  -- U+FEFF may not
  byte_order_mark_in_anchor : is_anchor_name 0xFEFF ≡ false

name_rows : NameRows
unfolding is_blank is_break is_nul is_blank_or_end is_flow is_anchor_name
name_rows = search

record MarkerRows : Type 0 where
  -- a document marker before a TAB
  marker : is_document_marker (codes "---\ta") ≡ true
  -- at the end
  marker_end : is_document_marker (codes "...") ≡ true
  -- before NUL
  marker_nul : is_document_marker (45 ∷ 45 ∷ 45 ∷ 0 ∷ []) ≡ true
  -- mixed marks
  no_marker_mixed : is_document_marker (codes "-.-") ≡ false
  -- a fourth mark
  no_marker_four : is_document_marker (codes "----") ≡ false

marker_rows : MarkerRows
unfolding is_blank is_break is_nul is_blank_or_end are_marks
marker_rows = search
