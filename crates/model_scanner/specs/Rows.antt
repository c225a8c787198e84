-- Rows that the models compute.
use Rattle.std.specs.Prelude.{[], ◌∷◌, true, false, Ok, Err, ◌≡◌, refl, codes}
use Rattle.defs_text.specs.Position.{Position}
use Rattle.yaml_chars.specs.Class.{is_break, is_blank, is_flow, is_hex, is_digit, is_anchor, is_alpha, is_alphanumeric, is_uri, is_uri_mark, is_tag}
use Rattle.yaml_tokens.specs.declared.problem.Fault.TheVariants.{At}
use Rattle.yaml_tokens.specs.declared.problem.Problem.TheVariants as problem
use Rattle.model_scanner.specs.Machine.{is_marker, at_marker}
use Rattle.model_scanner.specs.Plain.{plain, goes_on, is_shallow, at_dash, at_plain, can_be_plain, starts}
use Rattle.model_scanner.specs.Blanks.{space}
use Rattle.model_scanner.specs.Anchor.{anchor_name}
use Rattle.model_scanner.specs.BlockScalar.{block, header, indicators, increment, chomping, header_end, header_break, content, begins, between, tail}
use Rattle.defs_token.specs.Token.{Tok}
use Rattle.model_scanner.specs.Tag.{tag, named, shorthand, ends_tag, handle, prefix}
use Rattle.model_scanner.specs.Directive.{directive, kind, name, number, version_value, tag_value, directive_break, line_end}
use Rattle.model_scanner.specs.Quoted.{quoted, escape_of, is_scalar, refused}

abbrev start : Position
start = record { index = 0; line = 1; col = 0 }

-- a lone break is a space, and of two one stays
plain_folds : plain (record { flow = false; indent = 0 }) (codes "a b\t\n\n c: ") start
    ≡ Ok (record { rest = codes ": "; position = record { index = 8; line = 3; col = 2 }; value = record { text = codes "a b\nc"; leading = false } })
unfolding plain goes_on is_shallow at_marker at_dash at_plain is_marker can_be_plain is_break is_blank is_flow starts
plain_folds = refl

-- a scalar ends at the `#` of a comment line that has a TAB in its indentation
plain_comment : plain (record { flow = false; indent = 2 }) (codes "a\n\t# b\n  c") start
    ≡ Ok (record { rest = codes "# b\n  c"; position = record { index = 3; line = 2; col = 1 }; value = record { text = codes "a"; leading = true } })
unfolding plain goes_on is_shallow at_marker at_dash at_plain is_marker can_be_plain is_break is_blank is_flow starts
plain_comment = refl

-- escapes, an escaped break, and lines that fold
quoted_reads : quoted false (record { flow = false; indent = 0 }) (codes "\"a\\x41\\\n  b\n\n c \"!") start
    ≡ Ok (record { rest = codes "!"; position = record { index = 17; line = 4; col = 4 }; value = codes "aAb\nc " })
unfolding quoted escape_of is_scalar refused at_marker is_marker is_break is_blank is_flow is_hex
quoted_reads = refl

-- folded lines, an empty line, a line that starts with a blank, and the clipped tail
block_folds : block false 0 (codes "> # c\n a\n b\n\n  c\n d\n\ne") start
    ≡ Ok (record { rest = codes "e"; position = record { index = 21; line = 8; col = 0 }; value = record { position = record { index = 7; line = 2; col = 1 }; text = codes "a b\n\n c\nd\n" } })
unfolding block header indicators increment chomping header_end header_break space content begins between tail at_marker is_marker is_break is_blank is_digit
block_folds = refl

-- content at column 0 is ended by `---`
block_ends : block true 0 (codes "|+\na\n\n--- b") start
    ≡ Ok (record { rest = codes "--- b"; position = record { index = 6; line = 4; col = 0 }; value = record { position = record { index = 3; line = 2; col = 0 }; text = codes "a\n\n" } })
unfolding block header indicators increment chomping header_end header_break space content begins between tail at_marker is_marker is_break is_blank is_digit
block_ends = refl

-- a last line without a break that has spaces up to the content column counts as one more
block_open : block true 1 (codes "|\n  x\n  ") start
    ≡ Ok (record { rest = []; position = record { index = 8; line = 3; col = 2 }; value = record { position = record { index = 4; line = 2; col = 2 }; text = codes "x\n\n" } })
unfolding block header indicators increment chomping header_end header_break space content begins between tail at_marker is_marker is_break is_blank is_digit
block_open = refl

-- a name ends at a flow character
anchor_ends : anchor_name (codes "&a:b, c") start ≡ Ok (record { rest = codes ", c"; position = record { index = 4; line = 1; col = 4 }; value = codes "a:b" })
unfolding anchor_name is_anchor is_break is_blank is_flow
anchor_ends = refl

-- an escaped character of two octets in a tag's suffix
tag_decodes : tag false (codes "!e!a%C3%A9 x") start ≡ Ok (record { rest = codes " x"; position = record { index = 10; line = 1; col = 10 }; value = record { handle = codes "!e!"; suffix = 97 ∷ 233 ∷ [] } })
unfolding tag shorthand named ends_tag is_alpha is_alphanumeric is_tag is_uri is_uri_mark is_flow is_hex is_scalar is_blank is_break
tag_decodes = refl

-- an overlong form is no character
tag_overlong : tag false (codes "!%C1%81") start ≡ Err (At problem.TagCodepoint start)
unfolding tag shorthand named ends_tag is_alpha is_alphanumeric is_tag is_uri is_uri_mark is_flow is_hex is_scalar is_blank is_break
tag_overlong = refl

-- a lone `!` has no handle
tag_lone : tag true (codes "!,") start ≡ Ok (record { rest = codes ","; position = record { index = 1; line = 1; col = 1 }; value = record { handle = []; suffix = codes "!" } })
unfolding tag shorthand named ends_tag is_alpha is_alphanumeric is_tag is_uri is_uri_mark is_flow is_hex is_scalar is_blank is_break
tag_lone = refl

directive_version : directive (codes "%YAML 1.2 # c\n-") start ≡ Ok (record { rest = codes "-"; position = record { index = 14; line = 2; col = 0 }; value = Tok.version_directive 1 2 })
unfolding directive kind name number version_value directive_break line_end space is_alpha is_alphanumeric is_digit is_blank is_break
directive_version = refl

directive_tag : directive (codes "%TAG !e! tag:x,y:\n") start ≡ Ok (record { rest = []; position = record { index = 18; line = 2; col = 0 }; value = Tok.tag_directive (codes "!e!") (codes "tag:x,y:") })
unfolding directive kind name tag_value handle prefix directive_break line_end space is_alpha is_alphanumeric is_digit is_tag is_uri is_uri_mark is_flow is_blank is_break
directive_tag = refl
