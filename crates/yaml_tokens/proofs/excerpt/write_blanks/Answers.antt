use Rattle.std.proofs.Common.{◌++◌, encode_utf8, rules}
use Rattle.std.proofs.Output.{has_written_append}
use Rattle.yaml_tokens.proofs.WriteLemmas.{blank_written}
use Rattle.yaml_tokens.proofs.excerpt.write_blanks.Goals as goal

pub blanks-preserved : goal.blanks-preserved
blanks-preserved g c = (
  search rules,
  λ plain.
      let now = c.blanks.invariant.1 plain in (
        now.0 ++ encode_utf8 c.blank.result,
        has_written_append _ _ _ _ _ _ now.1 (search rules),
        blank_written now.0 _ _ _ _ _ _ (search rules) c.in-Some.ensures.0 c.blank.ensures now.2,
      ),
)
