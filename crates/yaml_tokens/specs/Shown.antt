-- The tokens of the code, as clauses see them.
use Rattle.std.specs.Prelude.{List, map, Bool, true, false}
use Rattle.defs_text.specs.Text.{string_chars}
use Rattle.defs_token.specs.Token.{Style, Tok, Token}
use Rattle.yaml_tokens.specs.declared.token.TScalarStyle.{TScalarStyle}
use Rattle.yaml_tokens.specs.declared.token.TScalarStyle.TheVariants as style
use Rattle.yaml_tokens.specs.declared.token.TokenType.{TokenType}
use Rattle.yaml_tokens.specs.declared.token.TokenType.TheVariants as kind
use Rattle.yaml_tokens.specs.declared.token.Token as code

abbrev pub style_of : TScalarStyle → Style
style_of style.Plain = Style.plain
style_of style.SingleQuoted = Style.single_quoted
style_of style.DoubleQuoted = Style.double_quoted
style_of style.Literal = Style.literal
style_of style.Folded = Style.folded

abbrev pub tok_of : TokenType → Tok
tok_of (kind.StreamStart e) = Tok.stream_start
tok_of kind.StreamEnd = Tok.stream_end
tok_of (kind.VersionDirective m n) = Tok.version_directive m n
tok_of (kind.TagDirective h p) = Tok.tag_directive (string_chars h) (string_chars p)
tok_of kind.DocumentStart = Tok.document_start
tok_of kind.DocumentEnd = Tok.document_end
tok_of kind.BlockSequenceStart = Tok.block_sequence_start
tok_of kind.BlockMappingStart = Tok.block_mapping_start
tok_of kind.BlockEnd = Tok.block_end
tok_of kind.FlowSequenceStart = Tok.flow_sequence_start
tok_of kind.FlowSequenceEnd = Tok.flow_sequence_end
tok_of kind.FlowMappingStart = Tok.flow_mapping_start
tok_of kind.FlowMappingEnd = Tok.flow_mapping_end
tok_of kind.BlockEntry = Tok.block_entry
tok_of kind.FlowEntry = Tok.flow_entry
tok_of kind.Key = Tok.key
tok_of kind.Value = Tok.value
tok_of (kind.Alias n) = Tok.alias (string_chars n)
tok_of (kind.Anchor n) = Tok.anchor (string_chars n)
tok_of (kind.Tag h s) = Tok.tag (string_chars h) (string_chars s)
tok_of (kind.Scalar y s) = Tok.scalar (style_of y) (string_chars s)

abbrev pub shown : code.Token → Token
shown t = record { position = t.0; tok = tok_of t.1 }

abbrev pub all_shown : List code.Token → List Token
all_shown = map shown

-- whether a token keeps a text, for which a copy asks for memory
abbrev pub keeps_text : Tok → Bool
keeps_text (Tok.tag_directive h p) = true
keeps_text (Tok.alias n) = true
keeps_text (Tok.anchor n) = true
keeps_text (Tok.tag h s) = true
keeps_text (Tok.scalar y s) = true
keeps_text _ = false
