-- Block collections (YAML 1.2, section 8.2), keys and values.
use Rattle.std.specs.Prelude.{List, ◌∷◌, Bool, true, false, not, ◌==◌, ◌&&◌, ◌||◌, nat_lt, if◌then◌else◌, slice_index, Option, Some, None, Result, Ok, Err}
use Rattle.defs_text.specs.Position.{Position}
use Rattle.yaml_chars.specs.Class.{is_alpha, is_blank_or_breakz, is_break, is_flow}
use Rattle.defs_token.specs.Token.{Tok}
use Rattle.yaml_tokens.specs.declared.problem.Fault.{Fault}
use Rattle.yaml_tokens.specs.declared.problem.Fault.TheVariants.{At}
use Rattle.yaml_tokens.specs.declared.problem.Problem.TheVariants as problem
use Rattle.model_scanner.specs.declared.context.SkipTabs.TheVariants.{Yes, No}
use Rattle.model_scanner.specs.declared.context.Whitespace.{Whitespace}
use Rattle.model_scanner.specs.Blanks.{space}
use Rattle.model_scanner.specs.declared.level.FlowLevel.{FlowLevel}
use Rattle.model_scanner.specs.declared.level.FlowLevel.TheVariants.{Entry, Keyed, Pair}
use Rattle.model_scanner.specs.State.{Key, Held, ScannerState, ◌>>=◌, peek, in_flow, push, put, with_top, on_held, try_held, lexed, skip_indicator}
use Rattle.model_scanner.specs.Keys.{top_key, remove_implicit_key}
use Rattle.model_scanner.specs.Indents.{roll_indent, roll_one_col_indent}
use Rattle.model_scanner.specs.Space.{skip_spaces, skip_yaml_whitespace}
use Rattle.model_scanner.specs.Flow.{allow_key}

-- Whether an entry of a block sequence may stand here.
unfoldable pub check_block_entry : Held → Result Held Fault
check_block_entry s =
    (if in_flow s then Err (At problem.BlockEntryInFlow s.position) else
    (if not s.key_allowed then Err (At problem.BlockEntryNotAllowed s.position) else Ok s))

-- A TAB must not stand between two dashes that are indicators.
unfoldable pub check_dash : Whitespace → ScannerState → Result ScannerState Fault
check_dash w t = (if w.found_tabs && (slice_index t.rest 0 == 45) && is_blank_or_breakz (slice_index t.rest 1) then Err (At problem.TabAfterDash t.held.position) else Ok t)

-- A level that opens no collection stands for an entry on a later line, or one that begins with a flow indicator.
unfoldable pub roll_entry : ScannerState → ScannerState
roll_entry t = (if is_break (peek t.rest) || is_flow (peek t.rest) then on_held roll_one_col_indent t else t)

-- After a `-` that was passed.
abbrev pub pass_dash : ScannerState → Result ScannerState Fault
pass_dash t = lexed (space Yes t.rest t.held.position) t.held check_dash

-- At the content of an entry.
abbrev pub begin_entry : ScannerState → Result ScannerState Fault
begin_entry t =
    skip_spaces No t >>= λ u.
    try_held remove_implicit_key (roll_entry u) >>= λ v.
    Ok (on_held (λ s. push s.position Tok.block_entry (allow_key true s)) v)

-- `-`
unfoldable pub fetch_block_entry : ScannerState → Result ScannerState Fault
fetch_block_entry t =
    try_held check_block_entry t >>= λ u.
    pass_dash (on_held (roll_indent t.held.position.col None Tok.block_sequence_start t.held.position) (skip_indicator u)) >>= λ v.
    begin_entry v

-- whether a key with `?` may stand here, and its mapping
abbrev pub keyed : List FlowLevel → List FlowLevel
keyed (Entry ∷ fs) = Keyed ∷ fs
keyed fs = fs

unfoldable pub begin_key : Held → Result Held Fault
begin_key s =
    (if in_flow s then Ok (record s { flow = keyed s.flow }) else
    (if not s.key_allowed then Err (At problem.KeyNotAllowed s.position) else Ok (roll_indent s.position.col None Tok.block_mapping_start s.position s)))

unfoldable pub check_key_space : ScannerState → Result ScannerState Fault
check_key_space t = (if peek t.rest == 9 then Err (At problem.TabAfterKey t.held.position) else Ok t)

-- After a `?` and the space after it.
abbrev pub pass_key : ScannerState → Result ScannerState Fault
pass_key t = skip_yaml_whitespace (skip_indicator t)

-- `?`
unfoldable pub fetch_key : ScannerState → Result ScannerState Fault
fetch_key t =
    try_held begin_key t >>= λ u.
    try_held remove_implicit_key u >>= λ v.
    pass_key (on_held (λ s. allow_key (not (in_flow s)) s) v) >>= λ w.
    check_key_space w >>= λ x.
    Ok (on_held (push t.held.position Tok.key) x)

-- after a `:`, a TAB and more blanks
unfoldable pub check_after_tab : Whitespace → ScannerState → Result ScannerState Fault
check_after_tab w t = (if not w.has_valid_yaml_ws && ((peek t.rest == 45) || is_alpha (peek t.rest)) then Err (At problem.TabAfterColon t.held.position) else Ok t)

-- What must not follow a `:` and a TAB.
unfoldable pub check_value_space : ScannerState → Result ScannerState Fault
check_value_space t = (if peek t.rest == 9 then lexed (space Yes t.rest t.held.position) t.held check_after_tab else Ok t)

abbrev pub opens_pair : List FlowLevel → Bool
opens_pair (Entry ∷ fs) = true
opens_pair _ = false

abbrev pub paired : List FlowLevel → List FlowLevel
paired (Entry ∷ fs) = Pair ∷ fs
paired fs = fs

-- In a pair of a flow sequence the key stands on the line of its `:`, and the pair begins before the key.
unfoldable pub begin_pair : Key → Position → Bool → Held → Result Held Fault
begin_pair k p pair s =
    (if pair then (if nat_lt k.position.line p.line then Err (At problem.ColonMisplaced p) else Ok (put k.number s.position Tok.flow_mapping_start s)) else Ok s)

-- The key that began without `?` gets its token, and its mapping a start where it is the first.
unfoldable pub insert_key : Key → Position → Bool → Held → Result Held Fault
insert_key k p pair s =
    begin_pair k p pair (put k.number k.position Tok.key s) >>= λ u.
    let v = roll_one_col_indent (roll_indent k.position.col (Some k.number) Tok.block_mapping_start p u) in
    Ok (record v { keys = with_top None v.keys; key_allowed = false })

abbrev pub begin_keyless_pair : Bool → Held → Held
begin_keyless_pair pair s = (if pair then push s.position Tok.flow_mapping_start s else s)

unfoldable pub begin_keyless_mapping : Position → Held → Result Held Fault
begin_keyless_mapping p s =
    (if in_flow s then Ok s else
    (if not s.key_allowed then Err (At problem.ValueNotAllowed p) else Ok (roll_indent p.col None Tok.block_mapping_start p s)))

-- A `:` after a key that began with `?`, or without a key.
unfoldable pub begin_keyless_value : Position → Bool → Held → Result Held Fault
begin_keyless_value p pair s =
    begin_keyless_mapping p (begin_keyless_pair pair s) >>= λ u.
    let v = roll_one_col_indent u in
    Ok (allow_key (not (in_flow v)) v)

abbrev pub value_of : Option Key → Position → Bool → Held → Result Held Fault
value_of (Some k) p pair s = insert_key k p pair s
value_of None p pair s = begin_keyless_value p pair s

-- `:`
unfoldable pub fetch_value : ScannerState → Result ScannerState Fault
fetch_value t =
    check_value_space (skip_indicator (on_held (λ s. record s { flow = paired s.flow }) t)) >>= λ u.
    try_held (λ s. value_of (top_key s.keys) t.held.position (opens_pair t.held.flow) s) u >>= λ v.
    Ok (on_held (push t.held.position Tok.value) v)
