-- The properties of a node, and the tokens of a tag and of directives. YAML 1.2, chapters 6.8 (directives) and 6.9 (properties).
use Rattle.std.specs.Prelude.{ℕ, List, [], ◌∷◌, Option, Some, None}
use Rattle.defs_token.specs.Token.{Tok}
use Rattle.defs_event.specs.Event.{Tag}
use Rattle.defs_event.specs.Raw.{Directive}

-- an anchor, a tag, or both in either order
pub data Properties : Type 0 where
  anchored : (anchor : List ℕ) → Properties
  tagged : Tag → Properties
  anchored_tagged : (anchor : List ℕ) → Tag → Properties
  tagged_anchored : Tag → (anchor : List ℕ) → Properties

-- the anchor's name
abbrev pub anchor_of : Properties → Option (List ℕ)
anchor_of (anchored a) = Some a
anchor_of (tagged t) = None
anchor_of (anchored_tagged a t) = Some a
anchor_of (tagged_anchored t a) = Some a

abbrev pub tag_of : Properties → Option Tag
tag_of (anchored a) = None
tag_of (tagged t) = Some t
tag_of (anchored_tagged a t) = Some t
tag_of (tagged_anchored t a) = Some t

abbrev pub perhaps_anchor_of : Option Properties → Option (List ℕ)
perhaps_anchor_of None = None
perhaps_anchor_of (Some p) = anchor_of p

abbrev pub perhaps_tag_of : Option Properties → Option Tag
perhaps_tag_of None = None
perhaps_tag_of (Some p) = tag_of p

abbrev pub tag_token : Tag → Tok
tag_token t = Tok.tag t.handle t.suffix

abbrev pub directive_token : Directive → Tok
directive_token (Directive.version major minor) = Tok.version_directive major minor
directive_token (Directive.tag handle prefix) = Tok.tag_directive handle prefix

abbrev pub directives_tokens : List Directive → List Tok → List Tok
directives_tokens [] r = r
directives_tokens (d ∷ ds) r = directive_token d ∷ directives_tokens ds r
