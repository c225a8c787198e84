-- Anchors, tags and directives, and their tokens.
use Rattle.model_scanner.proofs.Common.{[], codes, Ok, scan, Style, Tok, ◌∷◌, ◌≡◌}
use Rattle.yaml_tokens.specs.declared.problem.Problem.TheVariants as problem
use Rattle.model_scanner.proofs.OnLiterals.{scan_on_literals}
use Rattle.model_scanner.proofs.Rows.Words.{at, fails}

record Rows : Type 0 where
  -- an anchor and an alias in it
  alias : scan 9 (codes "&a [*a]") ≡ Ok (at 0 1 0 Tok.stream_start ∷ at 0 1 0 (Tok.anchor (codes "a")) ∷ at 3 1 3 Tok.flow_sequence_start ∷ at 4 1 4 (Tok.alias (codes "a")) ∷ at 6 1 6 Tok.flow_sequence_end ∷ at 7 2 0 Tok.stream_end ∷ [])
  -- an anchored mapping
  anchors : scan 21 (codes "a1: &DEFAULT\n    b1: 4\na2: *DEFAULT\n") ≡ Ok (at 0 1 0 Tok.stream_start ∷ at 2 1 2 Tok.block_mapping_start ∷ at 0 1 0 Tok.key ∷ at 0 1 0 (Tok.scalar Style.plain (codes "a1")) ∷ at 2 1 2 Tok.value ∷ at 4 1 4 (Tok.anchor (codes "DEFAULT")) ∷ at 19 2 6 Tok.block_mapping_start ∷ at 17 2 4 Tok.key ∷ at 17 2 4 (Tok.scalar Style.plain (codes "b1")) ∷ at 19 2 6 Tok.value ∷ at 21 2 8 (Tok.scalar Style.plain (codes "4")) ∷ at 23 3 0 Tok.block_end ∷ at 23 3 0 Tok.key ∷ at 23 3 0 (Tok.scalar Style.plain (codes "a2")) ∷ at 25 3 2 Tok.value ∷ at 27 3 4 (Tok.alias (codes "DEFAULT")) ∷ at 36 4 0 Tok.block_end ∷ at 36 4 0 Tok.stream_end ∷ [])
  -- a tag and an anchor
  shorthand : scan 8 (codes "!!int &x 5") ≡ Ok (at 0 1 0 Tok.stream_start ∷ at 0 1 0 (Tok.tag (codes "!!") (codes "int")) ∷ at 6 1 6 (Tok.anchor (codes "x")) ∷ at 9 1 9 (Tok.scalar Style.plain (codes "5")) ∷ at 10 2 0 Tok.stream_end ∷ [])
  -- two tag directives
  handles : scan 15 (codes "%TAG !a! x:\n%TAG !b! y:\n--- [!a!p 1, !b!q 2]") ≡ Ok (at 0 1 0 Tok.stream_start ∷ at 0 1 0 (Tok.tag_directive (codes "!a!") (codes "x:")) ∷ at 12 2 0 (Tok.tag_directive (codes "!b!") (codes "y:")) ∷ at 24 3 0 Tok.document_start ∷ at 28 3 4 Tok.flow_sequence_start ∷ at 29 3 5 (Tok.tag (codes "!a!") (codes "p")) ∷ at 34 3 10 (Tok.scalar Style.plain (codes "1")) ∷ at 35 3 11 Tok.flow_entry ∷ at 37 3 13 (Tok.tag (codes "!b!") (codes "q")) ∷ at 42 3 18 (Tok.scalar Style.plain (codes "2")) ∷ at 43 3 19 Tok.flow_sequence_end ∷ at 44 4 0 Tok.stream_end ∷ [])
  -- a version directive
  version : scan 8 (codes "%YAML 1.2\n---\na") ≡ Ok (at 0 1 0 Tok.stream_start ∷ at 0 1 0 (Tok.version_directive 1 2) ∷ at 10 2 0 Tok.document_start ∷ at 14 3 0 (Tok.scalar Style.plain (codes "a")) ∷ at 15 4 0 Tok.stream_end ∷ [])
  -- a directive of an unknown name
  unknown : scan 8 (codes "%FOO bar\n--- a") ≡ Ok (at 0 1 0 Tok.stream_start ∷ at 0 1 0 (Tok.tag_directive (codes "") (codes "")) ∷ at 9 2 0 Tok.document_start ∷ at 13 2 4 (Tok.scalar Style.plain (codes "a")) ∷ at 14 3 0 Tok.stream_end ∷ [])
  -- octets in a verbatim tag are UTF-8
  verbatim : scan 7 (codes "!<tag:x%C3%A9> a") ≡ Ok (at 0 1 0 Tok.stream_start ∷ at 0 1 0 (Tok.tag [] (116 ∷ 97 ∷ 103 ∷ 58 ∷ 120 ∷ 233 ∷ [])) ∷ at 15 1 15 (Tok.scalar Style.plain (codes "a")) ∷ at 16 2 0 Tok.stream_end ∷ [])
  -- an octet that leads no character
  overlong : scan 4 (codes "!<%F8> a") ≡ fails problem.TagLeadingOctet 0 1 0
  -- an anchor without a name
  no_name : scan 4 (codes "& a") ≡ fails problem.AnchorName 0 1 0
  -- a version number of too many digits
  long_version : scan 4 (codes "%YAML 1.1234567890\n---") ≡ fails problem.VersionTooLong 0 1 0
  -- an anchor at the first column before an entry there
  margin : scan 8 (codes "a:\n&b\n- c") ≡ fails problem.KeyWithoutColon 6 3 0

rows : Rows
unfolding scan_on_literals
rows = search
