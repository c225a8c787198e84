-- How the scan of a URI's characters ends, told by its text. YAML 1.2, section 5.6; RFC 3629, section 3 (UTF-8).
use Rattle.std.specs.Prelude.{ℕ, Bool, List, ◌++◌, length, Result, Ok, Err}
use Rattle.defs_text.specs.Position.{Position}
use Rattle.defs_text.specs.Tags.{leading, after, UriFault, no_octet, wrong_lead, wrong_trail, no_character, decoded}
use Rattle.yaml_tokens.specs.declared.problem.Fault.{Fault}
use Rattle.yaml_tokens.specs.declared.problem.Fault.TheVariants.{At}
use Rattle.yaml_tokens.specs.declared.problem.Problem.{Problem}
use Rattle.yaml_tokens.specs.declared.problem.Problem.TheVariants as problem
use Rattle.model_scanner.specs.Machine.{Read}
use Rattle.proof_lexers.specs.NameEnds.{further}

-- what is said of a text whose octets are no characters
abbrev pub problem_of : UriFault → Problem
problem_of no_octet = problem.TagOctet
problem_of wrong_lead = problem.TagLeadingOctet
problem_of wrong_trail = problem.TagTrailingOctet
problem_of no_character = problem.TagCodepoint

-- What is left after the characters of a class that a text begins with, by what they mean; what was read before them stays before it.
abbrev pub after_class : (class : ℕ → Bool) → (start p : Position) → (text before : List ℕ) → Result (List ℕ) UriFault → Result (Read (List ℕ)) Fault
after_class class start p text before (Ok cs) = Ok (record { rest = after class text; position = further (length (leading class text)) p; value = before ++ cs })
after_class class start p text before (Err f) = Err (At (problem_of f) start)

-- all of them are read, escapes as octets of UTF-8
abbrev pub uri_read : (class : ℕ → Bool) → (start p : Position) → (text before : List ℕ) → Result (Read (List ℕ)) Fault
uri_read class start p text before = after_class class start p text before (decoded (leading class text))
