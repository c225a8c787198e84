use Rattle.std.proofs.Common.{◌++◌, encode_utf8, encode_utf8_all, codes, chars, rules}
use Rattle.std.proofs.Output.{has_written_append}
use Rattle.std.proofs.lemmas.Grind.{put_two}
use Rattle.yaml_tokens.specs.Excerpt.{shown_line}
use Rattle.yaml_tokens.proofs.WriteLemmas.{character_shown, cut_shown}
use Rattle.yaml_tokens.proofs.excerpt.write_line.Goals as goal

pub shown-preserved : goal.shown-preserved
shown-preserved g c = (
  search rules,
  λ plain.
      let now = c.shown.invariant.1 plain in (
        now.0 ++ encode_utf8 c.visible.result,
        has_written_append _ _ _ _ _ _ now.1 (search rules),
        character_shown now.0 _ _ _ _ _ _ (search rules) c.in-Some.ensures.0 (search rules) c.visible.ensures now.2,
      ),
)

pub returns-then-left-eq0 : goal.returns-then-left-eq0
returns-then-left-eq0 g c =
    λ plain ok.
    let now = c.shown.invariant.1 plain in
    put_two _ _ _ _ now.0 (codes "...") (encode_utf8_all (shown_line 80 (chars c.args.text.now))) now.1 (c.write_str.ensures.writes now.1.plain ok) (cut_shown now.0 (encode_utf8_all (shown_line 80 (chars c.args.text.now))) _ _ _ _ (search rules) c.in-Some.ensures.0 (search rules) now.2)
