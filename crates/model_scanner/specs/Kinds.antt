-- The kinds of names, scalars and collections, and their tokens.
use Rattle.std.specs.Prelude.{ℕ, List, Bool, true, false}
use Rattle.defs_token.specs.Token.{Style, Tok}
use Rattle.model_scanner.specs.declared.kind.NameKind.{NameKind}
use Rattle.model_scanner.specs.declared.kind.NameKind.TheVariants.{Alias, Anchor}
use Rattle.model_scanner.specs.declared.kind.Quotes.{Quotes}
use Rattle.model_scanner.specs.declared.kind.Quotes.TheVariants.{Single, Double}
use Rattle.model_scanner.specs.declared.kind.BlockStyle.{BlockStyle}
use Rattle.model_scanner.specs.declared.kind.BlockStyle.TheVariants.{Literal, Folded}
use Rattle.model_scanner.specs.declared.kind.Collection.{Collection}
use Rattle.model_scanner.specs.declared.kind.Collection.TheVariants.{Sequence, Mapping}
use Rattle.model_scanner.specs.declared.level.FlowLevel.{FlowLevel}
use Rattle.model_scanner.specs.declared.level.FlowLevel.TheVariants as level

abbrev pub anchor_token : NameKind → List ℕ → Tok
anchor_token Alias name = Tok.alias name
anchor_token Anchor name = Tok.anchor name

abbrev pub are_single : Quotes → Bool
are_single Single = true
are_single Double = false

abbrev pub quoted_style : Quotes → Style
quoted_style Single = Style.single_quoted
quoted_style Double = Style.double_quoted

abbrev pub is_literal : BlockStyle → Bool
is_literal Literal = true
is_literal Folded = false

abbrev pub block_style : BlockStyle → Style
block_style Literal = Style.literal
block_style Folded = Style.folded

-- the token of the start of a block collection
abbrev pub block_start : Collection → Tok
block_start Sequence = Tok.block_sequence_start
block_start Mapping = Tok.block_mapping_start

-- the token of the start of a flow collection
abbrev pub flow_start : Collection → Tok
flow_start Sequence = Tok.flow_sequence_start
flow_start Mapping = Tok.flow_mapping_start

-- the token of the end of a flow collection
abbrev pub flow_end : Collection → Tok
flow_end Sequence = Tok.flow_sequence_end
flow_end Mapping = Tok.flow_mapping_end

-- the level of a flow collection, before its first entry
abbrev pub flow_level : Collection → FlowLevel
flow_level Sequence = level.Entry
flow_level Mapping = level.Mapping
