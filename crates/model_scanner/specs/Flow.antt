-- Flow collections (YAML 1.2, section 7.4).
use Rattle.std.specs.Prelude.{List, ◌∷◌, Bool, true, false, nat_le, if◌then◌else◌, None, Result, Ok, Err, length}
use Rattle.defs_text.specs.Text.{is_empty}
use Rattle.defs_token.specs.Token.{Tok}
use Rattle.yaml_tokens.specs.declared.problem.Fault.{Fault}
use Rattle.yaml_tokens.specs.declared.problem.Fault.TheVariants.{At}
use Rattle.yaml_tokens.specs.declared.problem.Problem.TheVariants as problem
use Rattle.model_scanner.specs.declared.context.SkipTabs.TheVariants.{Yes}
use Rattle.model_scanner.specs.declared.level.FlowLevel.{FlowLevel}
use Rattle.model_scanner.specs.declared.level.FlowLevel.TheVariants.{Entry, Keyed, Pair}
use Rattle.model_scanner.specs.declared.kind.Collection.{Collection}
use Rattle.model_scanner.specs.Kinds.{flow_start, flow_end, flow_level}
use Rattle.model_scanner.specs.State.{Held, ScannerState, ◌>>=◌, in_flow, push, pop, on_held, try_held, skip_indicator}
use Rattle.model_scanner.specs.Keys.{save_implicit_key, remove_implicit_key}
use Rattle.model_scanner.specs.Indents.{roll_one_col_indent}
use Rattle.model_scanner.specs.Space.{skip_spaces}

-- At most 255 flow collections stand one in another.
unfoldable pub increase_flow_level : Collection → Held → Result Held Fault
increase_flow_level kind s = (if nat_le 255 (length s.flow) then Err (At problem.FlowTooDeep s.position) else Ok (record s { keys = None ∷ s.keys; flow = flow_level kind ∷ s.flow }))

abbrev pub allow_key : Bool → Held → Held
allow_key b s = record s { key_allowed = b }

abbrev pub deepened_flow : Result Held Fault → Result Held Fault
deepened_flow (Ok s) = Ok (allow_key true s)
deepened_flow (Err f) = Err f

-- what the start of a flow collection leaves, which may be a key
unfoldable pub begin_flow : Collection → Held → Result Held Fault
begin_flow kind s = deepened_flow (increase_flow_level kind (roll_one_col_indent (save_implicit_key s)))

-- after an indicator, spaces and a comment
unfoldable pub pass_indicator : ScannerState → Result ScannerState Fault
pass_indicator t = skip_spaces Yes (skip_indicator t)

-- `[` or `{`
unfoldable pub fetch_flow_collection_start : Collection → ScannerState → Result ScannerState Fault
fetch_flow_collection_start kind t =
    try_held (begin_flow kind) t >>= λ u.
    pass_indicator u >>= λ v.
    Ok (on_held (push t.held.position (flow_start kind)) v)

abbrev pub end_pair : List FlowLevel → Held → Held
end_pair (Pair ∷ fs) s = push s.position Tok.flow_mapping_end (record s { flow = Entry ∷ fs })
end_pair (Keyed ∷ fs) s = record s { flow = Entry ∷ fs }
end_pair _ s = s

-- An entry of the innermost flow collection ends, and with it a single-pair mapping.
unfoldable pub end_flow_pair : Held → Held
end_flow_pair s = end_pair s.flow s

unfoldable pub decrease_flow_level : Held → Held
decrease_flow_level s = (if is_empty s.flow then s else record s { flow = pop s.flow; keys = pop s.keys })

-- A `:` may stand right after a flow collection that is a key.
unfoldable pub adjacent_in_flow : Held → Held
adjacent_in_flow s = (if in_flow s then record s { adjacent_value_at = s.position.index } else s)

abbrev pub ended_flow : Result Held Fault → Result Held Fault
ended_flow (Ok s) = Ok (allow_key false (decrease_flow_level (end_flow_pair s)))
ended_flow (Err f) = Err f

unfoldable pub end_flow : Held → Result Held Fault
end_flow s = ended_flow (remove_implicit_key s)

-- `]` or `}`
unfoldable pub fetch_flow_collection_end : Collection → ScannerState → Result ScannerState Fault
fetch_flow_collection_end kind t =
    try_held end_flow t >>= λ u.
    pass_indicator u >>= λ v.
    Ok (on_held (λ s. push t.held.position (flow_end kind) (adjacent_in_flow s)) v)

abbrev pub next_entry : Result Held Fault → Result Held Fault
next_entry (Ok s) = Ok (end_flow_pair (allow_key true s))
next_entry (Err f) = Err f

unfoldable pub end_entry : Held → Result Held Fault
end_entry s = next_entry (remove_implicit_key s)

-- `,`
unfoldable pub fetch_flow_entry : ScannerState → Result ScannerState Fault
fetch_flow_entry t =
    try_held end_entry t >>= λ u.
    pass_indicator u >>= λ v.
    Ok (on_held (push t.held.position Tok.flow_entry) v)
