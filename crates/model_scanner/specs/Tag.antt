-- Tags (YAML 1.2, sections 6.8.2 and 6.9.1): the exact model.
use Rattle.std.specs.Prelude.{ℕ, Bool, List, [], ◌∷◌, ◌++◌, ◌==◌, ◌||◌, ◌&&◌, not, if◌then◌else◌, drop, slice_index, Result, Ok, Err}
use Rattle.defs_text.specs.Position.{Position}
use Rattle.yaml_chars.specs.Class.{is_alpha, is_blank_or_breakz, is_flow, is_tag, is_uri}
use Rattle.defs_text.specs.Text.{is_empty}
use Rattle.yaml_tokens.specs.declared.problem.Fault.{Fault}
use Rattle.yaml_tokens.specs.declared.problem.Fault.TheVariants.{At}
use Rattle.yaml_tokens.specs.declared.problem.Problem.TheVariants as problem
use Rattle.model_scanner.specs.Machine.{Read, and_then, past, take_while}
use Rattle.model_scanner.specs.Uri.{uri}

-- a tag as it is written
pub record Tag : Type 0 where
  pub handle : List ℕ
  pub suffix : List ℕ

abbrev pub read_tag : List ℕ → Position → List ℕ → List ℕ → Read Tag
read_tag rest p handle suffix = record { rest = rest; position = p; value = record { handle = handle; suffix = suffix } }

abbrev pub verbatim_end : Position → List ℕ → List ℕ → Position → Result (Read Tag) Fault
verbatim_end start t [] p = Err (At problem.VerbatimTagEnd start)
verbatim_end start t (c ∷ a) p = (if c == 62 then Ok (read_tag a (past p) [] t) else Err (At problem.VerbatimTagEnd start))

-- a tag after its `!<`
unfoldable pub verbatim : Position → List ℕ → Position → Result (Read Tag) Fault
verbatim start a p = and_then (uri is_uri start a p []) (λ (r : Read (List ℕ)). verbatim_end start r.value r.rest r.position)

abbrev pub some_suffix : Position → List ℕ → Read (List ℕ) → Result (Read Tag) Fault
some_suffix start name r = (if is_empty r.value then Err (At problem.TagUri start) else Ok (read_tag r.rest r.position ((33 ∷ name) ++ 33 ∷ []) r.value))

-- a tag after its handle
unfoldable pub named : Position → List ℕ → List ℕ → Position → Result (Read Tag) Fault
named start name a p = and_then (uri is_tag start a p []) (λ r. some_suffix start name r)

abbrev pub local : Read (List ℕ) → Read Tag
local r = (if is_empty r.value then read_tag r.rest r.position [] (33 ∷ []) else read_tag r.rest r.position (33 ∷ []) r.value)

-- a suffix without a handle, which begins with a name
abbrev pub local_tag : Position → List ℕ → List ℕ → Position → Result (Read Tag) Fault
local_tag start name a p = and_then (uri is_tag start a p name) (λ r. Ok (local r))

abbrev pub after_name : Position → List ℕ → List ℕ → Position → Result (Read Tag) Fault
after_name start name a p = (if slice_index a 0 == 33 then named start name (drop 1 a) (past p) else local_tag start name a p)

abbrev pub after_word : Position → Read (List ℕ) → Result (Read Tag) Fault
after_word start r = after_name start r.value r.rest r.position

-- a tag after its first `!`
unfoldable pub shorthand : Position → List ℕ → Position → Result (Read Tag) Fault
shorthand start a p = after_word start (take_while is_alpha a p [])

-- what may stand after a tag
unfoldable pub ends_tag : Bool → ℕ → Bool
ends_tag flow c = is_blank_or_breakz c || (flow && is_flow c)

abbrev pub tag_end : Bool → Position → Read Tag → Result (Read Tag) Fault
tag_end flow start r = (if ends_tag flow (slice_index r.rest 0) then Ok r else Err (At problem.TagEnd start))

abbrev pub tag_here : Position → List ℕ → Position → Result (Read Tag) Fault
tag_here start a p = (if slice_index a 0 == 60 then verbatim start (drop 1 a) (past p) else shorthand start a p)

-- the tag that stands here, with its `!`
unfoldable pub tag : Bool → List ℕ → Position → Result (Read Tag) Fault
tag flow [] p = Err (At problem.TagStart p)
tag flow (c ∷ a) p = and_then (tag_here p a (past p)) (λ r. tag_end flow p r)

abbrev pub handle_end : Position → Bool → List ℕ → List ℕ → Position → Result (Read (List ℕ)) Fault
handle_end start bare t a p = (if slice_index a 0 == 33 then Ok (record { rest = drop 1 a; position = past p; value = t ++ 33 ∷ [] }) else (if bare then Ok (record { rest = a; position = p; value = t }) else Err (At problem.TagDirectiveHandle start)))

abbrev pub handle_word : Position → Bool → Read (List ℕ) → Result (Read (List ℕ)) Fault
handle_word start bare r = handle_end start bare r.value r.rest r.position

-- the handle of a tag directive
unfoldable pub handle : Position → List ℕ → Position → Result (Read (List ℕ)) Fault
handle start a p = (if slice_index a 0 == 33 then handle_word start (not (is_alpha (slice_index a 1))) (take_while is_alpha (drop 1 a) (past p) (33 ∷ [])) else Err (At problem.TagStart start))

-- the prefix of a tag directive
unfoldable pub prefix : Position → List ℕ → Position → Result (Read (List ℕ)) Fault
prefix start a p = (if (slice_index a 0 == 33) || is_tag (slice_index a 0) then uri is_uri start a p [] else Err (At problem.GlobalTagCharacter start))
