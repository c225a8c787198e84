-- Directives (YAML 1.2, section 6.8): the exact model.
use Rattle.std.specs.Prelude.{ℕ, ◌+◌, ◌-◌, ◌*◌, List, [], ◌∷◌, ◌==◌, ◌&&◌, not, if◌then◌else◌, drop, slice_index, Result, Ok, Err}
use Rattle.defs_text.specs.Position.{Position}
use Rattle.yaml_chars.specs.Class.{is_alpha, is_blank_or_breakz, is_break, is_digit}
use Rattle.defs_token.specs.Token.{Tok}
use Rattle.yaml_tokens.specs.declared.problem.Fault.{Fault}
use Rattle.yaml_tokens.specs.declared.problem.Fault.TheVariants.{At}
use Rattle.yaml_tokens.specs.declared.problem.Problem.TheVariants as problem
use Rattle.model_scanner.specs.declared.context.SkipTabs.TheVariants.{Yes}
use Rattle.model_scanner.specs.declared.context.Whitespace.{Whitespace}
use Rattle.model_scanner.specs.Machine.{Turn, stop, fail, on, Stop, run, Read, and_then, past, skip_while}
use Rattle.model_scanner.specs.Blanks.{space, linebreak, comment, blanks}
use Rattle.model_scanner.specs.Tag.{handle, prefix}

-- a directive by its name
pub data Kind : Type 0 where
  version : Kind
  tag : Kind
  unknown : Kind

-- the directive whose name stands here
unfoldable pub kind : List ℕ → Kind
kind a =
    (if (slice_index a 0 == 89) && (slice_index a 1 == 65) && (slice_index a 2 == 77) && (slice_index a 3 == 76) && not (is_alpha (slice_index a 4)) then version else
    (if (slice_index a 0 == 84) && (slice_index a 1 == 65) && (slice_index a 2 == 71) && not (is_alpha (slice_index a 3)) then tag else unknown))

abbrev pub name_end : Position → Kind → Read (Unit {0}) → Result (Read Kind) Fault
name_end p k r = (if is_blank_or_breakz (slice_index r.rest 0) then Ok (record { rest = r.rest; position = r.position; value = k }) else Err (At problem.DirectiveNameEnd p))

-- a directive's name
unfoldable pub name : List ℕ → Position → Result (Read Kind) Fault
name a p = (if is_alpha (slice_index a 0) then name_end p (kind a) (skip_while is_alpha a p) else Err (At problem.DirectiveName p))

-- a version's number so far, and how many digits it has
pub record Digits : Type 0 where
  pub position : Position
  pub value : ℕ
  pub length : ℕ

abbrev pub digit_turn : Position → Digits → ℕ → List ℕ → Turn Digits Fault
digit_turn start s c a = (if is_digit c then (if s.length == 9 then fail (At problem.VersionTooLong start) else on (record { position = past s.position; value = s.value * 10 + (c - 48); length = s.length + 1 })) else stop s)

abbrev pub digits_end : Position → Result (Stop Digits) Fault → Result (Read ℕ) Fault
digits_end start (Ok t) = (if t.state.length == 0 then Err (At problem.VersionNumber start) else Ok (record { rest = t.rest; position = t.state.position; value = t.state.value }))
digits_end start (Err f) = Err f

abbrev pub number_from : Position → List ℕ → Digits → Result (Read ℕ) Fault
number_from start a s = digits_end start (run (digit_turn start) a s)

-- a number of a version
unfoldable pub number : Position → List ℕ → Position → Result (Read ℕ) Fault
number start a p = number_from start a (record { position = p; value = 0; length = 0 })

abbrev pub with_minor : ℕ → Read ℕ → Read Tok
with_minor major r = record { rest = r.rest; position = r.position; value = Tok.version_directive major r.value }

abbrev pub after_major : Position → Read ℕ → Result (Read Tok) Fault
after_major start r = (if slice_index r.rest 0 == 46 then and_then (number start (drop 1 r.rest) (past r.position)) (λ n. Ok (with_minor r.value n)) else Err (At problem.VersionDot start))

abbrev pub version_after : Position → Read (Unit {0}) → Result (Read Tok) Fault
version_after start r = and_then (number start r.rest r.position) (λ n. after_major start n)

-- the two numbers of a version
unfoldable pub version_value : Position → List ℕ → Position → Result (Read Tok) Fault
version_value start a p = version_after start (blanks a p)

abbrev pub with_prefix : Position → List ℕ → Read (List ℕ) → Result (Read Tok) Fault
with_prefix start h r = (if is_blank_or_breakz (slice_index r.rest 0) then Ok (record { rest = r.rest; position = r.position; value = Tok.tag_directive h r.value }) else Err (At problem.TagDirectiveEnd start))

abbrev pub prefix_after : Position → List ℕ → Read (Unit {0}) → Result (Read Tok) Fault
prefix_after start h r = and_then (prefix start r.rest r.position) (λ q. with_prefix start h q)

abbrev pub handle_after : Position → Read (Unit {0}) → Result (Read Tok) Fault
handle_after start r = and_then (handle start r.rest r.position) (λ (h : Read (List ℕ)). prefix_after start h.value (blanks h.rest h.position))

-- a handle and its prefix
unfoldable pub tag_value : Position → List ℕ → Position → Result (Read Tok) Fault
tag_value start a p = handle_after start (blanks a p)

abbrev pub empty_tag : Read (Unit {0}) → Read Tok
empty_tag r = record { rest = r.rest; position = r.position; value = Tok.tag_directive [] [] }

-- what a directive says; one of another name is a tag directive of two empty texts
abbrev pub value : Position → Kind → List ℕ → Position → Result (Read Tok) Fault
value start version a p = version_value start a p
value start tag a p = tag_value start a p
value start unknown a p = Ok (empty_tag (comment a p))

-- the break after a directive, or the end
unfoldable pub directive_break : Position → List ℕ → Position → Result (Read (Unit {0})) Fault
directive_break start [] p = Ok (record { rest = []; position = p; value = tt })
directive_break start (c ∷ a) p = (if is_break c then Ok (linebreak (c ∷ a) p) else Err (At problem.DirectiveEnd start))

-- the rest of a directive's line
unfoldable pub line_end : Position → List ℕ → Position → Result (Read (Unit {0})) Fault
line_end start a p = and_then (space Yes a p) (λ (w : Read Whitespace). directive_break start w.rest w.position)

abbrev pub with_end : Read Tok → Read (Unit {0}) → Read Tok
with_end v r = record { rest = r.rest; position = r.position; value = v.value }

abbrev pub after_value : Position → Read Tok → Result (Read Tok) Fault
after_value start v = and_then (line_end start v.rest v.position) (λ r. Ok (with_end v r))

-- the directive after its `%`
abbrev pub after_name : Position → Read Kind → Result (Read Tok) Fault
after_name start n = and_then (value start n.value n.rest n.position) (λ v. after_value start v)

-- the directive that stands here, with its `%`
unfoldable pub directive : List ℕ → Position → Result (Read Tok) Fault
directive [] p = Err (At problem.DirectiveName p)
directive (c ∷ a) p = and_then (name a (past p)) (λ n. after_name p n)
