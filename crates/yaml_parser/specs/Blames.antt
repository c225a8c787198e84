-- The parser's own fault: what it says of the token that is refused.
use Rattle.std.specs.Prelude.{◌≡◌, ◌⊎◌, List, [], ◌∷◌, ◌++◌, Bool, true, false, not, if◌then◌else◌, codes, None}
use Rattle.defs_text.specs.Position.{Position}
use Rattle.defs_token.specs.Token.{Tok, Token}
use Rattle.yaml_tokens.specs.ErrorReport.{ErrorReport}
use Rattle.yaml_tokens.specs.Problem.{fault_of}
use Rattle.yaml_tokens.specs.declared.problem.Fault.TheVariants as fault
use Rattle.yaml_tokens.specs.declared.problem.Problem.{Problem}
use Rattle.yaml_tokens.specs.declared.problem.Problem.TheVariants as problem
use Rattle.defs_event.specs.Event.{Ev}
use Rattle.defs_event.specs.Raw.{Raw, Directive}
use Rattle.defs_event.specs.Properties.{directive_token, directives_tokens}
use Rattle.defs_event.specs.Names.{Names, no_names, under_name, prefix_of, are_allowed}
use Rattle.defs_event.specs.Stream.{StreamSays, events_of}
use Rattle.defs_token.specs.Toks.{toks}
use Rattle.model_parser.specs.declared.kind.Kind.{Kind}
use Rattle.model_parser.specs.declared.kind.Kind.TheVariants as kind
use Rattle.model_parser.specs.declared.context.NodeContext.TheVariants as context
use Rattle.model_parser.specs.Kinds.{kind_of, is_directive, begins_content, ends_item, ends_flow_pair}
use Rattle.defs_event.specs.Place.{Collection, block_sequence, block_mapping, flow_sequence, flow_mapping, open_after, Next, node_next, directive_next, other_next, next_after}
use Rattle.yaml_parser.specs.Apart.{StandsApart, StandsBefore}
use Rattle.yaml_parser.specs.Derived.{IsDerived, NoneIsNamed, stood}
use Rattle.yaml_parser.specs.Nests.{is_open}
use Rattle.yaml_parser.specs.Settings.{names_since}

-- what goes on in a block sequence
abbrev pub is_entry_or_end : Kind → Bool
is_entry_or_end kind.BlockEntry = true
is_entry_or_end kind.BlockEnd = true
is_entry_or_end _ = false

-- what goes on in a block mapping
abbrev pub is_key_or_end : Kind → Bool
is_key_or_end kind.Key = true
is_key_or_end kind.BlockEnd = true
is_key_or_end _ = false

-- whether a token of this kind may be refused for this problem; for one that is not the parser's, none may
abbrev pub fits : Problem → Kind → Bool
fits problem.DocumentStartToken k = true
fits problem.SecondVersion kind.VersionDirective = true
fits problem.RepeatedHandle kind.TagDirective = true
fits problem.DirectiveWithoutDocumentEnd k = is_directive k
fits problem.UnknownAnchor kind.Alias = true
fits problem.UndeclaredHandle kind.Tag = true
fits problem.NodeContent k = not (begins_content context.Flow k)
fits problem.BlockMappingKey k = not (is_key_or_end k)
fits problem.BlockSequenceEntry k = not (is_entry_or_end k)
fits problem.FlowMappingEntry k = not (ends_flow_pair k)
fits problem.FlowSequenceEntry k = not (ends_item k)
fits _ _ = false

-- ---- which problem a refused token has

-- where no node may begin: what the innermost open collection goes on with, or a document's start where none is open
abbrev pub problem_in : List Collection → Problem
problem_in [] = problem.DocumentStartToken
problem_in (block_sequence ∷ cs) = problem.BlockSequenceEntry
problem_in (block_mapping ∷ cs) = problem.BlockMappingKey
problem_in (flow_sequence ∷ cs) = problem.FlowSequenceEntry
problem_in (flow_mapping ∷ cs) = problem.FlowMappingEntry

abbrev pub problem_at : Next → List Collection → Problem
problem_at node_next cs = problem.NodeContent
problem_at directive_next cs = problem.DocumentStartToken
problem_at other_next cs = problem_in cs

-- A directive with nothing open wants `...` before it, also where a node may begin.
abbrev pub problem_for : Kind → Next → List Collection → Problem
problem_for k n [] = if is_directive k then problem.DirectiveWithoutDocumentEnd else problem_at n []
problem_for k n (c ∷ cs) = problem_at n (c ∷ cs)

-- the problem of this token, where the grammar refuses it after those before it
abbrev pub problem_of : List Tok → Tok → Problem
problem_of [] t = problem.DocumentStartToken
problem_of (u ∷ ts) t = problem_for (kind_of t) (next_after other_next (u ∷ ts)) (open_after [] (u ∷ ts))

-- whether the problem is what a name means, or how often it is declared: the tokens alone would go on
abbrev pub is_of_names : Problem → Bool
is_of_names problem.SecondVersion = true
is_of_names problem.RepeatedHandle = true
is_of_names problem.UnknownAnchor = true
is_of_names problem.UndeclaredHandle = true
is_of_names _ = false

-- The last of these tokens is an anchor, at this position.
pub record EndsInAnchor (tokens : List Token) (position : Position) : Type 0 where
  pub before : List Token
  pub anchor : Token
  pub whole : tokens ≡ before ++ anchor ∷ []
  pub is : kind_of anchor.tok ≡ kind.Anchor
  pub at : position ≡ anchor.position

-- The position is that of the token. An undeclared handle's is that of the node's first property: the anchor's, where it stands
-- right before the tag.
abbrev pub StandsAt : Problem → Position → List Token → Token → Type 0
StandsAt p position before last =
    ((position ≡ last.position) × (p ≡ problem.UndeclaredHandle → (q : Position) → EndsInAnchor before q → ⊥))
    ⊎ ((p ≡ problem.UndeclaredHandle) × EndsInAnchor before position)

-- ---- why a problem is named

-- No anchor so far in the document has the alias's name.
abbrev pub HasUnknownAnchor : Names → Tok → Type 0
HasUnknownAnchor names (Tok.alias name) = under_name name names.anchors ≡ None
HasUnknownAnchor names t = ⊥

-- The tag's handle stands for nothing.
abbrev pub HasUndeclaredHandle : Names → Tok → Type 0
HasUndeclaredHandle names (Tok.tag handle suffix) = prefix_of names.handles handle ≡ None
HasUndeclaredHandle names t = ⊥

-- The document's directives so far, which stand right before the token, are allowed; with this one they are not.
pub record SpoilsDirectives (before : List Tok) (last : Tok) : Type 0 where
  pub earlier : List Tok
  pub read : List Directive
  pub directive : Directive
  pub before_are : before ≡ earlier ++ directives_tokens read []
  pub last_is : last ≡ directive_token directive
  pub allowed : are_allowed read ≡ true
  pub spoilt : are_allowed (read ++ directive ∷ []) ≡ false

-- What must be so where this problem is named: after events that leave these names, and after these tokens.
abbrev pub IsCause : Problem → Names → List Ev → List Tok → Tok → Type 0
-- no document is open; and after the stream's start, the token begins none
IsCause problem.DocumentStartToken names events before last = (is_open false events ≡ false) × (last ≡ Tok.document_start → events ≡ [])
IsCause problem.SecondVersion names events before last = SpoilsDirectives before last
IsCause problem.RepeatedHandle names events before last = SpoilsDirectives before last
IsCause problem.UnknownAnchor names events before last = HasUnknownAnchor names last
IsCause problem.UndeclaredHandle names events before last = HasUndeclaredHandle names last
IsCause p names events before last = Unit {0}

-- The fault refuses the last of these tokens: it has a text of the parser's that fits the token, and stands at it. The events come of
-- the tokens before it.
pub record Blames (f : ErrorReport) (settings : List Bool) (keep_tags : Bool) (tokens : List Token) (events : List (Ev × Position)) : Type 0 where
  pub before : List Token
  pub last : Token
  pub whole : tokens ≡ before ++ last ∷ []
  pub raw : List Raw
  pub derived : IsDerived settings keep_tags before raw events
  pub unnamed : NoneIsNamed settings keep_tags (toks tokens)
  pub problem : Problem
  pub shown : f ≡ fault_of (fault.At problem f.position) f.position
  pub fits_it : fits problem (kind_of last.tok) ≡ true
  -- But for a problem of names, the tokens say which it is.
  pub says : is_of_names problem ≡ false → problem ≡ problem_of (toks before) last.tok
  pub cause : IsCause problem (names_since settings keep_tags no_names raw) (events_of events) (toks before) last.tok
  pub stands : StandsAt problem f.position before last
  -- But at the stream's start, the events are those that the tokens before make certain.
  pub apart : (toks before ≡ [] → ⊥) → StandsApart problem (toks before) raw
  -- They are those that the tokens before it say before another token comes in its place.
  pub beside : (toks before ≡ [] → ⊥) → StandsBefore problem before last.position (stood raw events)
  -- But for a problem of names, the token grammar has no stream that begins so, whatever names mean.
  pub none : is_of_names problem ≡ false → (ts : List Tok) (es : List Raw) → StreamSays (toks tokens ++ ts) es → ⊥
  -- For one of names, it has such a stream.
  pub some : is_of_names problem ≡ true → (ts : List Tok) × (es : List Raw) × StreamSays (toks tokens ++ ts) es

-- Memory was refused.
pub record WantsMemory (f : ErrorReport) : Type 0 where
  pub memory : f.memory ≡ true
  pub text : f.text ≡ codes "out of memory"
