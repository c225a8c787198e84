-- What may be a key, as the model sees it. In the code a position counts from the first token that waits.
use Rattle.std.specs.Prelude.{ℕ, ◌+◌, ◌-◌, List, [], ◌∷◌, Bool, false, ◌==◌, Option, Some, None, map, if◌then◌else◌}
use Rattle.defs_text.specs.Position.{Position}
use Rattle.model_scanner.specs.State.{Key}
use Rattle.model_scanner.specs.Keys.{is_far}
use Rattle.yaml_scanner.specs.declared.keys.ImplicitKey.{ImplicitKey}

-- a key after so many tokens that were handed out
abbrev pub keyed_by : ℕ → ImplicitKey → Key
keyed_by given k = record { required = k.required; number = given + k.position; position = k.mark }

abbrev pub key_of : ℕ → Option ImplicitKey → Option Key
key_of given None = None
key_of given (Some k) = Some (keyed_by given k)

abbrev pub seen : ℕ → List (Option ImplicitKey) → List (Option Key)
seen given ks = map (key_of given) ks

-- whether a key stands before the next token
abbrev pub is_front : Option ImplicitKey → Bool
is_front None = false
is_front (Some k) = k.position == 0

-- a key after one token more that was handed out
abbrev pub lowered : Option ImplicitKey → Option ImplicitKey
lowered None = None
lowered (Some k) = Some (record k { position = k.position - 1 })

abbrev pub top_implicit : List (Option ImplicitKey) → Option ImplicitKey
top_implicit [] = None
top_implicit (k ∷ ks) = k

-- what may still be a key at a position
abbrev pub still_implicit : Position → Option ImplicitKey → Option ImplicitKey
still_implicit p None = None
still_implicit p (Some k) = (if is_far k.mark p then None else Some k)

-- whether a key began on an earlier line or too far back
abbrev pub is_stale : Position → Option ImplicitKey → Bool
is_stale p None = false
is_stale p (Some k) = is_far k.mark p

abbrev pub no_implicit : Option ImplicitKey → Option ImplicitKey
no_implicit k = None

-- a position from the first token that waits as one from the first of all
abbrev pub number_of : ℕ → Option ℕ → Option ℕ
number_of given None = None
number_of given (Some n) = Some (given + n)
