use Rattle.std.proofs.Common.{◌∙◌, ap, chars, rules}
use Rattle.yaml_tokens.specs.Excerpt.{excerpt}
use Rattle.yaml_tokens.proofs.ShownLemmas.{cut_line}
use Rattle.yaml_tokens.proofs.excerpt.Excerpt.at.Goals as goal

pub returns-else-column-le-MOST_BEFORE : goal.returns-else-column-le-MOST_BEFORE
returns-else-column-le-MOST_BEFORE c =
    cut_line _ _ _ _ _ c.line_of-column.ensures.line c.line_of-column.ensures.column (search rules) c.after.ensures
    ∙ ap (excerpt (chars c.args.text.now)) c.index.ensures.value
