-- Tokens that may turn out to be keys (YAML 1.2, sections 7.4.2 and 8.2.2).
use Rattle.std.specs.Prelude.{◌+◌, List, [], ◌∷◌, Bool, false, ◌||◌, ◌&&◌, ◌==◌, nat_lt, not, if◌then◌else◌, Option, Some, None, Result, Ok, Err, length, map}
use Rattle.std.specs.List.{list_any}
use Rattle.defs_text.specs.Position.{Position}
use Rattle.yaml_tokens.specs.declared.problem.Fault.{Fault}
use Rattle.yaml_tokens.specs.declared.problem.Fault.TheVariants.{At}
use Rattle.yaml_tokens.specs.declared.problem.Problem.TheVariants as problem
use Rattle.model_scanner.specs.State.{Key, Held, in_flow, with_top}
use Rattle.model_scanner.specs.declared.level.Indent.{Indent}

-- whether a position lies on a later line than another, or more than 1024 characters after it
unfoldable pub is_far : Position → Position → Bool
is_far from to = nat_lt from.line to.line || nat_lt (from.index + 1024) to.index

abbrev pub is_overdue : Position → Option Key → Bool
is_overdue p None = false
is_overdue p (Some k) = is_far k.position p && k.required

-- what may still be a key at a position
abbrev pub still : Position → Option Key → Option Key
still p None = None
still p (Some k) = (if is_far k.position p then None else Some k)

-- Keys that are too far back are none, and must not be required.
unfoldable pub drop_stale : Position → List (Option Key) → Result (List (Option Key)) Fault
drop_stale p ks = (if list_any (is_overdue p) ks then Err (At problem.KeyWithoutColon p) else Ok (map (still p) ks))

abbrev pub with_keys : Held → Result (List (Option Key)) Fault → Result Held Fault
with_keys s (Ok ks) = Ok (record s { keys = ks })
with_keys s (Err f) = Err f

-- Inside flow a key may stand anywhere before its `:`.
unfoldable pub stale : Held → Result Held Fault
stale s = (if in_flow s then Ok s else with_keys s (drop_stale s.position s.keys))

abbrev pub is_required : Option Key → Bool
is_required None = false
is_required (Some k) = k.required

-- whether some key must still come to its `:`
abbrev pub has_required : List (Option Key) → Bool
has_required ks = list_any is_required ks

-- no key is open
abbrev pub cleared : List (Option Key) → List (Option Key)
cleared ks = map (λ k. None) ks

abbrev pub top_key : List (Option Key) → Option Key
top_key [] = None
top_key (k ∷ ks) = k

-- whether the innermost level of indentation is a block collection
abbrev pub top_needs_block_end : List Indent → Bool
top_needs_block_end [] = false
top_needs_block_end (d ∷ ds) = d.needs_block_end

-- whether a token here must be a key: a block mapping or sequence stands at this column
unfoldable pub must_be_key : Held → Bool
must_be_key s = not (in_flow s) && (s.indent == s.position.col + 1) && top_needs_block_end s.indents

-- The next token may be a key, where one is allowed.
unfoldable pub save_implicit_key : Held → Held
save_implicit_key s = (if s.key_allowed then record s { keys = with_top (Some (record { required = must_be_key s; number = length s.tokens; position = s.position })) s.keys } else s)

-- What might have been a key at the innermost level is none.
unfoldable pub remove_implicit_key : Held → Result Held Fault
remove_implicit_key s = (if is_required (top_key s.keys) then Err (At problem.KeyExpected s.position) else Ok (record s { keys = with_top None s.keys }))
