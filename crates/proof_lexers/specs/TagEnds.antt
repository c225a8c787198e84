-- How the scan of a tag ends, told by the text after its `!`. YAML 1.2, sections 5.6 and 6.9.1.
use Rattle.std.specs.Prelude.{◌≡◌, ℕ, List, [], ◌∷◌, ◌++◌, Bool, true, false, ◌&&◌, ◌||◌, length, Some, Ok, Err}
use Rattle.defs_text.specs.Position.{Position}
use Rattle.defs_text.specs.Classes.{is_alpha, is_uri, is_tag, is_at_gap}
use Rattle.defs_text.specs.FlowScalar.{begins_with}
use Rattle.defs_text.specs.Text.{is_empty}
use Rattle.defs_text.specs.Tags.{UriFault, all_of, leading, after, begins_with_mark, decoded, written_tag}
use Rattle.defs_token.specs.Plain.{begins_flow}
use Rattle.yaml_tokens.specs.declared.problem.Fault.{Fault}
use Rattle.yaml_tokens.specs.declared.problem.Fault.TheVariants.{At}
use Rattle.yaml_tokens.specs.declared.problem.Problem.{Problem}
use Rattle.yaml_tokens.specs.declared.problem.Problem.TheVariants as problem
use Rattle.model_scanner.specs.Machine.{Read}
use Rattle.model_scanner.specs.Tag.{Tag}
use Rattle.proof_lexers.specs.NameEnds.{further}
use Rattle.proof_lexers.specs.UriEnds.{problem_of}

-- whether a tag may end before a text
abbrev pub may_follow : (in_flow : Bool) → List ℕ → Bool
may_follow in_flow r = is_at_gap r || (in_flow && begins_flow r)

-- what is left after a tag at a position
abbrev pub after_tag : Position → (piece rest handle suffix : List ℕ) → Read Tag
after_tag p piece rest handle suffix = record { rest = rest; position = further (length piece) p; value = record { handle = handle; suffix = suffix } }

-- Why the text after a `!` is refused. Of a verbatim tag, after a handle of two marks, or else after `!` alone: octets of its own characters are no characters; it is not closed, or has no suffix; or the text goes on after it.
pub data IsTagRefusal (in_flow : Bool) (text : List ℕ) : Problem → Type 0 where
  verbatim_octets : (rest : List ℕ) (f : UriFault) → text ≡ 60 ∷ rest → decoded (leading is_uri rest) ≡ Err f → IsTagRefusal in_flow text (problem_of f)
  unclosed : (rest uri : List ℕ) → text ≡ 60 ∷ rest → decoded (leading is_uri rest) ≡ Ok uri → begins_with 62 (after is_uri rest) ≡ false → IsTagRefusal in_flow text problem.VerbatimTagEnd
  verbatim_goes_on : (rest uri more : List ℕ) → text ≡ 60 ∷ rest → decoded (leading is_uri rest) ≡ Ok uri → after is_uri rest ≡ 62 ∷ more → may_follow in_flow more ≡ false → IsTagRefusal in_flow text problem.TagEnd
  suffix_octets : (name rest : List ℕ) (f : UriFault) → text ≡ name ++ 33 ∷ rest → all_of is_alpha name ≡ true → decoded (leading is_tag rest) ≡ Err f → IsTagRefusal in_flow text (problem_of f)
  no_suffix : (name rest : List ℕ) → text ≡ name ++ 33 ∷ rest → all_of is_alpha name ≡ true → leading is_tag rest ≡ [] → IsTagRefusal in_flow text problem.TagUri
  suffix_goes_on : (name rest suffix : List ℕ) → text ≡ name ++ 33 ∷ rest → all_of is_alpha name ≡ true → is_empty (leading is_tag rest) ≡ false → decoded (leading is_tag rest) ≡ Ok suffix → may_follow in_flow (after is_tag rest) ≡ false → IsTagRefusal in_flow text problem.TagEnd
  local_octets : (f : UriFault) → begins_with 60 text ≡ false → begins_with_mark (after is_alpha text) ≡ false → decoded (leading is_tag (after is_alpha text)) ≡ Err f → IsTagRefusal in_flow text (problem_of f)
  local_goes_on : (suffix : List ℕ) → begins_with 60 text ≡ false → begins_with_mark (after is_alpha text) ≡ false → decoded (leading is_tag (after is_alpha text)) ≡ Ok suffix → may_follow in_flow (after is_tag (after is_alpha text)) ≡ false → IsTagRefusal in_flow text problem.TagEnd

-- The fault of such a text, at the position of its `!`.
pub data IsTagFault (in_flow : Bool) (start : Position) (text : List ℕ) : Fault → Type 0 where
  at_start : (why : Problem) → IsTagRefusal in_flow text why → IsTagFault in_flow start text (At why start)

-- What is read of a text: a tag that stands there, before what may follow one.
pub data IsTagRead (in_flow : Bool) (start : Position) (text : List ℕ) : Read Tag → Type 0 where
  whole_tag : (piece rest handle suffix : List ℕ) → text ≡ piece ++ rest → written_tag (33 ∷ piece) ≡ Some (record { handle = handle; suffix = suffix }) → may_follow in_flow rest ≡ true
      → IsTagRead in_flow start text (after_tag start (33 ∷ piece) rest handle suffix)
