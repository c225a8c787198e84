-- Spaces, comments and line breaks before a token (YAML 1.2, sections 6.1 and 6.6): the exact model.
use Rattle.std.specs.Prelude.{ℕ, Bool, true, false, List, [], ◌∷◌, ◌==◌, ◌&&◌, ◌||◌, not, if◌then◌else◌, drop, Option, Some, None, Result, Ok, Err}
use Rattle.defs_text.specs.Position.{Position}
use Rattle.yaml_chars.specs.Class.{is_break, is_blank}
use Rattle.yaml_tokens.specs.declared.problem.Fault.{Fault}
use Rattle.yaml_tokens.specs.declared.problem.Fault.TheVariants.{At}
use Rattle.yaml_tokens.specs.declared.problem.Problem.TheVariants as problem
use Rattle.model_scanner.specs.declared.context.SkipTabs.{SkipTabs}
use Rattle.model_scanner.specs.declared.context.SkipTabs.TheVariants.{Yes, No}
use Rattle.model_scanner.specs.declared.context.Whitespace.{Whitespace}
use Rattle.model_scanner.specs.Machine.{Stop, walk, Read, past, past_break, is_cr_lf, skip_while}

abbrev pub linebreak_at : ℕ → List ℕ → Position → Read (Unit {0})
linebreak_at c a p = (if is_cr_lf c a then record { rest = drop 1 a; position = past_break (past p); value = tt } else record { rest = a; position = past_break p; value = tt })

-- after the line break that stands here
abbrev pub linebreak : List ℕ → Position → Read (Unit {0})
linebreak [] p = record { rest = []; position = p; value = tt }
linebreak (c ∷ a) p = linebreak_at c a p

abbrev pub is_line : ℕ → Bool
is_line c = not (is_break c)

-- at the end of the line
abbrev pub comment : List ℕ → Position → Read (Unit {0})
comment a p = skip_while is_line a p

-- after blanks
abbrev pub blanks : List ℕ → Position → Read (Unit {0})
blanks a p = skip_while is_blank a p

abbrev pub are_skipped : SkipTabs → Bool
are_skipped Yes = true
are_skipped No = false

abbrev pub with_found : Whitespace → Read (Unit {0}) → Read Whitespace
with_found w r = record { rest = r.rest; position = r.position; value = w }

-- a comment has to stand after a space or a TAB
abbrev pub comment_after : Whitespace → List ℕ → Position → Result (Read Whitespace) Fault
comment_after w a p = (if w.found_tabs || w.has_valid_yaml_ws then Ok (with_found w (comment a p)) else Err (At problem.CommentNotSeparated p))

-- where a walk over spaces stands, and what it found
pub record Spaces : Type 0 where
  pub position : Position
  pub found : Whitespace

-- a space, or a TAB where these are skipped
abbrev pub space_step : SkipTabs → Spaces → ℕ → List ℕ → Option Spaces
space_step tabs s c a =
    (if c == 32 then Some (record { position = past s.position; found = record (s.found) { has_valid_yaml_ws = true } }) else
    (if (c == 9) && are_skipped tabs then Some (record { position = past s.position; found = record (s.found) { found_tabs = true } }) else None))

abbrev pub after_spaces : List ℕ → Spaces → Result (Read Whitespace) Fault
after_spaces [] s = Ok (record { rest = []; position = s.position; value = s.found })
after_spaces (c ∷ a) s = (if c == 35 then comment_after s.found (c ∷ a) s.position else Ok (record { rest = c ∷ a; position = s.position; value = s.found }))

abbrev pub spaces_end : Stop Spaces → Result (Read Whitespace) Fault
spaces_end t = after_spaces t.rest t.state

-- after spaces, TABs where these are skipped, and a comment, from what was found before on
abbrev pub space_from : SkipTabs → List ℕ → Spaces → Result (Read Whitespace) Fault
space_from tabs a s = spaces_end (walk (space_step tabs) a s)

unfoldable pub space : SkipTabs → List ℕ → Position → Result (Read Whitespace) Fault
space tabs a p = space_from tabs a (record { position = p; found = record { found_tabs = false; has_valid_yaml_ws = false } })
