-- How the scan of a directive ends, told by its line. YAML 1.2, section 6.8.
use Rattle.std.specs.Prelude.{◌≡◌, ℕ, suc, List, [], ◌∷◌, ◌++◌, Bool, true, false, nat_le, if◌then◌else◌, take, drop, length, Some, None, Ok, Err, codes}
use Rattle.defs_text.specs.Position.{Position, position_after}
use Rattle.defs_text.specs.Text.{is_empty}
use Rattle.defs_token.specs.Token.{Tok}
use Rattle.yaml_tokens.specs.declared.problem.Fault.{Fault}
use Rattle.yaml_tokens.specs.declared.problem.Fault.TheVariants.{At}
use Rattle.yaml_tokens.specs.declared.problem.Problem.{Problem}
use Rattle.yaml_tokens.specs.declared.problem.Problem.TheVariants as problem
use Rattle.defs_text.specs.Classes.{is_blank, is_break, is_decimal_digit, is_alpha, is_uri, is_at_gap}
use Rattle.defs_text.specs.Breaks.{is_before_line_feed, is_rest_of_line, has_no_break}
use Rattle.defs_text.specs.FlowScalar.{begins_with}
use Rattle.defs_text.specs.Tags.{UriFault, leading, after, begins_with_mark, is_handle, decoded}
use Rattle.defs_text.specs.Directives.{Directive, version, tag_declaration, reserved, number_of, begins_prefix, handle_and_rest, directive_of}
use Rattle.model_scanner.specs.Machine.{Read}
use Rattle.proof_lexers.specs.NameEnds.{further}
use Rattle.proof_lexers.specs.UriEnds.{problem_of}

-- the token of a directive; one that is ignored is a handle's declaration of two empty texts
abbrev pub token_of : Directive → Tok
token_of (version major minor) = Tok.version_directive major minor
token_of (tag_declaration handle prefix) = Tok.tag_directive handle prefix
token_of reserved = Tok.tag_directive [] []

-- whether a text is at its end or begins with a break
abbrev pub ends_line : List ℕ → Bool
ends_line [] = true
ends_line (c ∷ r) = is_break c

-- the break that a text at a line's end begins with: LF, CR, or CR LF
abbrev pub first_break : List ℕ → List ℕ
first_break [] = []
first_break (c ∷ r) = (if is_before_line_feed c r then c ∷ take 1 r else c ∷ [])

-- what stands after it
abbrev pub next_line : List ℕ → List ℕ
next_line [] = []
next_line (c ∷ r) = (if is_before_line_feed c r then drop 1 r else r)

-- what is left after a directive's line and its break
abbrev pub after_line : Position → (line next : List ℕ) → Tok → Read Tok
after_line p line next tok = record { rest = next_line next; position = position_after p (line ++ first_break next) (next_line next); value = tok }

-- Why a text after `%YAML` and blanks is no version: its number is missing, or has more than nine digits; no point stands after the number; or after the point a number is missing, or has more than nine digits.
pub data IsNoVersion (text : List ℕ) : Problem → Type 0 where
  no_major : leading is_decimal_digit text ≡ [] → IsNoVersion text problem.VersionNumber
  long_major : nat_le (length (leading is_decimal_digit text)) 9 ≡ false → IsNoVersion text problem.VersionTooLong
  no_point : (major : ℕ) → number_of (leading is_decimal_digit text) ≡ Some major → begins_with 46 (after is_decimal_digit text) ≡ false → IsNoVersion text problem.VersionDot
  no_minor : (major : ℕ) (r : List ℕ) → number_of (leading is_decimal_digit text) ≡ Some major → after is_decimal_digit text ≡ 46 ∷ r → leading is_decimal_digit r ≡ [] → IsNoVersion text problem.VersionNumber
  long_minor : (major : ℕ) (r : List ℕ) → number_of (leading is_decimal_digit text) ≡ Some major → after is_decimal_digit text ≡ 46 ∷ r → nat_le (length (leading is_decimal_digit r)) 9 ≡ false → IsNoVersion text problem.VersionTooLong

-- whether a text begins with a handle
abbrev pub begins_handle : List ℕ → Bool
begins_handle text = is_handle (handle_and_rest text).0

-- what stands after a handle and blanks
abbrev pub from_prefix : List ℕ → List ℕ
from_prefix text = after is_blank (handle_and_rest text).1

-- Why a text after `%TAG` and blanks declares no handle: it begins with no mark; its name has no second mark; no prefix begins after the handle and blanks; octets of the prefix are no characters; or the prefix goes on.
pub data IsNoDeclaration (text : List ℕ) : Problem → Type 0 where
  no_mark : begins_with_mark text ≡ false → IsNoDeclaration text problem.TagStart
  open_name : (c : ℕ) (name rest : List ℕ) → text ≡ 33 ∷ rest → leading is_alpha rest ≡ c ∷ name → begins_with_mark (after is_alpha rest) ≡ false → IsNoDeclaration text problem.TagDirectiveHandle
  no_prefix : begins_handle text ≡ true → begins_prefix (from_prefix text) ≡ false → IsNoDeclaration text problem.GlobalTagCharacter
  by_octets : (f : UriFault) → begins_handle text ≡ true → begins_prefix (from_prefix text) ≡ true → decoded (leading is_uri (from_prefix text)) ≡ Err f → IsNoDeclaration text (problem_of f)
  goes_on : (prefix : List ℕ) → begins_handle text ≡ true → begins_prefix (from_prefix text) ≡ true → decoded (leading is_uri (from_prefix text)) ≡ Ok prefix → is_at_gap (after is_uri (from_prefix text)) ≡ false → IsNoDeclaration text problem.TagDirectiveEnd

-- A line begins with this name, and after it stands a blank, a break or the end.
pub record HasName (name line : List ℕ) : Type 0 where
  pub is_name : leading is_alpha line ≡ name
  pub is_whole : is_at_gap (after is_alpha line) ≡ true

-- what stands in a line after a directive's name and blanks
abbrev pub said : (line : List ℕ) → List ℕ
said line = after is_blank (after is_alpha line)

-- A line is a version of two numbers with all their digits, and goes on with this text.
pub record IsVersionBefore (line rest : List ℕ) : Type 0 where
  pub major : ℕ
  pub minor : ℕ
  pub point : List ℕ
  pub is_version : HasName (codes "YAML") line
  pub has_point : after is_decimal_digit (said line) ≡ 46 ∷ point
  pub is_major : number_of (leading is_decimal_digit (said line)) ≡ Some major
  pub is_minor : number_of (leading is_decimal_digit point) ≡ Some minor
  pub is_before : after is_decimal_digit point ≡ rest

-- A line is a handle's declaration with all of its prefix, and goes on with this text.
pub record IsDeclarationBefore (line rest : List ℕ) : Type 0 where
  pub prefix : List ℕ
  pub is_declaration : HasName (codes "TAG") line
  pub has_handle : begins_handle (said line) ≡ true
  pub has_prefix : begins_prefix (from_prefix (said line)) ≡ true
  pub is_prefix : decoded (leading is_uri (from_prefix (said line))) ≡ Ok prefix
  pub is_before : after is_uri (from_prefix (said line)) ≡ rest
  pub is_apart : is_at_gap rest ≡ true

-- Why a line after a `%` at a position is refused: it begins with no name; its name goes on with another character; a version or a declaration is none; or after one stands a comment without a blank, or other text.
pub data IsDirectiveRefusal (start : Position) (line : List ℕ) : Fault → Type 0 where
  no_name : leading is_alpha line ≡ [] → IsDirectiveRefusal start line (At problem.DirectiveName (further 1 start))
  by_name : is_empty (leading is_alpha line) ≡ false → is_at_gap (after is_alpha line) ≡ false → IsDirectiveRefusal start line (At problem.DirectiveNameEnd (further 1 start))
  by_version : (why : Problem) → HasName (codes "YAML") line → IsNoVersion (said line) why → IsDirectiveRefusal start line (At why start)
  by_declaration : (why : Problem) → HasName (codes "TAG") line → IsNoDeclaration (said line) why → IsDirectiveRefusal start line (At why start)
  by_comment : (before rest : List ℕ) → line ≡ before ++ 35 ∷ rest → IsVersionBefore line (35 ∷ rest) → IsDirectiveRefusal start line (At problem.CommentNotSeparated (further (suc (length before)) start))
  after_version : (rest : List ℕ) → IsVersionBefore line rest → is_rest_of_line rest ≡ false → begins_with 35 rest ≡ false → IsDirectiveRefusal start line (At problem.DirectiveEnd start)
  after_declaration : (rest : List ℕ) → IsDeclarationBefore line rest → is_rest_of_line rest ≡ false → IsDirectiveRefusal start line (At problem.DirectiveEnd start)

-- What is read of a text after a `%`: the directive that its first line is, and the break after that.
pub data IsDirectiveRead (start : Position) (text : List ℕ) : Read Tok → Type 0 where
  whole_directive : (line next : List ℕ) (d : Directive) → text ≡ line ++ next → has_no_break line ≡ true → ends_line next ≡ true → directive_of (37 ∷ line) ≡ Some d → IsDirectiveRead start text (after_line start (37 ∷ line) next (token_of d))

-- Why it is refused: its first line is no directive, for one of these reasons.
pub data IsNoDirective (start : Position) (text : List ℕ) (f : Fault) : Type 0 where
  no_directive : (line next : List ℕ) → text ≡ line ++ next → has_no_break line ≡ true → ends_line next ≡ true → directive_of (37 ∷ line) ≡ None → IsDirectiveRefusal start line f → IsNoDirective start text f
