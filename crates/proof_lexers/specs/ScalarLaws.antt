-- Laws of the scanner's model and the texts of single tokens: each is the contract of the function of `src/laws.rt` that its comment names.
use Rattle.std.specs.Prelude.{◌≡◌, ℕ, List, ◌∷◌, ◌++◌, Bool, true, false, Some, Ok}
use Rattle.defs_text.specs.Position.{Position}
use Rattle.defs_text.specs.FlowScalar.{plain_value}
use Rattle.model_scanner.specs.declared.context.Context.{Context}
use Rattle.model_scanner.specs.Anchor.{anchor_name}
use Rattle.model_scanner.specs.Plain.{plain}
use Rattle.defs_token.specs.Piece.{is_name, goes_on_with_name}
use Rattle.defs_token.specs.Plain.{is_whole_plain}
use Rattle.proof_lexers.specs.Ends.{EndsAs}
use Rattle.proof_lexers.specs.NameEnds.{after_name, IsNameRead, IsNameRefusal}
use Rattle.model_scanner.specs.declared.context.SkipTabs.{SkipTabs}
use Rattle.model_scanner.specs.Blanks.{space}
use Rattle.model_scanner.specs.State.{Held}
use Rattle.model_scanner.specs.Space.{between, skip, white}
use Rattle.defs_token.specs.Separation.{is_separation}
use Rattle.proof_lexers.specs.Separations.{begins_separation, begins_white_space, HasPassed, IsTabRefusal, IsAfter, HasNoWhiteSpace, HasSpaces, IsGlued}
use Rattle.yaml_chars.specs.Class.{is_uri, is_tag}
use Rattle.defs_text.specs.Classes as classes
use Rattle.model_scanner.specs.Uri.{uri}
use Rattle.model_scanner.specs.Tag.{tag}
use Rattle.proof_lexers.specs.UriEnds.{uri_read}
use Rattle.proof_lexers.specs.TagEnds as tags
use Rattle.defs_text.specs.Tags.{written_tag}
use Rattle.defs_text.specs.Directives.{Directive, directive_of}
use Rattle.defs_text.specs.Breaks.{has_no_break}
use Rattle.model_scanner.specs.Directive.{directive}
use Rattle.proof_lexers.specs.DirectiveEnds as directives
use Rattle.defs_text.specs.Text.{has_no_nul}
use Rattle.proof_lexers.specs.PlainEnds.{collection_of, begins_solid, is_indented, IsPlainRead, IsPlainRefusal, IsScalarRead}

-- `names_are_read`; `c` is the indicator
abbrev pub NamesAreRead : Type 0
NamesAreRead = (c : ℕ) (name rest : List ℕ) (p : Position) → is_name name ≡ true → goes_on_with_name rest ≡ false → anchor_name (c ∷ (name ++ rest)) p ≡ Ok (after_name p name rest)

-- `names_end_as_their_text_says`
abbrev pub NamesEndAsTheirTextSays : Type 0
NamesEndAsTheirTextSays = (c : ℕ) (text : List ℕ) (p : Position) → EndsAs (IsNameRead p text) (IsNameRefusal p text) (anchor_name (c ∷ text) p)

-- `plain_scalars_are_read`
abbrev pub PlainScalarsAreRead : Type 0
PlainScalarsAreRead =
    (ctx : Context) (piece next value : List ℕ) (p : Position) → has_no_nul (piece ++ next) ≡ true → begins_solid piece ≡ true → is_indented ctx p ≡ true
    → is_whole_plain ctx.flow (collection_of ctx.indent) piece next ≡ true → plain_value piece ≡ Some value → EndsAs (IsScalarRead p piece next value) (IsPlainRefusal ctx p (piece ++ next)) (plain ctx (piece ++ next) p)

-- `plain_scans_end_as_their_text_says`
abbrev pub PlainScansEndAsTheirTextSays : Type 0
PlainScansEndAsTheirTextSays =
    (ctx : Context) (text : List ℕ) (p : Position) → has_no_nul text ≡ true → begins_solid text ≡ true → is_indented ctx p ≡ true → EndsAs (IsPlainRead ctx p text) (IsPlainRefusal ctx p text) (plain ctx text p)

-- `separations_are_passed`
abbrev pub SeparationsArePassed : Type 0
SeparationsArePassed = (s : Held) (text : List ℕ) → EndsAs (HasPassed begins_separation s text) (IsTabRefusal s text) (skip between text s)

-- `each_separation_is_passed`
abbrev pub EachSeparationIsPassed : Type 0
EachSeparationIsPassed =
    (s : Held) (separation rest : List ℕ) → has_no_nul (separation ++ rest) ≡ true → is_separation false separation rest ≡ true → begins_separation rest ≡ false
    → EndsAs (IsAfter s separation rest) (IsTabRefusal s (separation ++ rest)) (skip between (separation ++ rest) s)

-- `uris_are_read`; of URIs, and of the suffixes of tags
abbrev pub UrisAreRead : Type 0
UrisAreRead =
    (start : Position) (text : List ℕ) (p : Position) (before : List ℕ) →
    (uri is_uri start text p before ≡ uri_read classes.is_uri start p text before) × (uri is_tag start text p before ≡ uri_read classes.is_tag start p text before)

-- `tags_end_as_their_text_says`; `text` is what stands after the `!`
abbrev pub TagsEndAsTheirTextSays : Type 0
TagsEndAsTheirTextSays = (in_flow : Bool) (text : List ℕ) (p : Position) → EndsAs (tags.IsTagRead in_flow p text) (tags.IsTagFault in_flow p text) (tag in_flow (33 ∷ text) p)

-- `tags_are_read`; `piece` is what stands after the `!`
abbrev pub TagsAreRead : Type 0
TagsAreRead =
    (in_flow : Bool) (piece rest handle suffix : List ℕ) (p : Position) → written_tag (33 ∷ piece) ≡ Some (record { handle = handle; suffix = suffix }) → tags.may_follow in_flow rest ≡ true
    → tag in_flow (33 ∷ (piece ++ rest)) p ≡ Ok (tags.after_tag p (33 ∷ piece) rest handle suffix)

-- `white_space_is_passed`; what must stand after a `?`
abbrev pub WhiteSpaceIsPassed : Type 0
WhiteSpaceIsPassed = (s : Held) (text : List ℕ) → EndsAs (HasPassed begins_white_space s text) (HasNoWhiteSpace s text) (white false false text s)

-- `spaces_are_passed`; within a line
abbrev pub SpacesArePassed : Type 0
SpacesArePassed = (tabs : SkipTabs) (text : List ℕ) (p : Position) → EndsAs (HasSpaces tabs p text) (IsGlued p text) (space tabs text p)

-- `directives_are_read`; `line` is what stands after the `%`, up to the line's end
abbrev pub DirectivesAreRead : Type 0
DirectivesAreRead =
    (line next : List ℕ) (d : Directive) (p : Position) → has_no_break line ≡ true → directives.ends_line next ≡ true → directive_of (37 ∷ line) ≡ Some d
    → directive (37 ∷ (line ++ next)) p ≡ Ok (directives.after_line p (37 ∷ line) next (directives.token_of d))

-- `directives_end_as_their_text_says`; `text` is what stands after the `%`
abbrev pub DirectivesEndAsTheirTextSays : Type 0
DirectivesEndAsTheirTextSays = (text : List ℕ) (p : Position) → EndsAs (directives.IsDirectiveRead p text) (directives.IsNoDirective p text) (directive (37 ∷ text) p)
