use Rattle.std.proofs.Common.{arith, rules}
use Rattle.yaml_tokens.proofs.LineLemmas.{at_line, at_next, at_count, at_end, one_less}
use Rattle.yaml_tokens.proofs.line.line_of.Goals as goal

pub returns-in_default-clause-line : goal.returns-in_default-clause-line
returns-in_default-clause-line c = (at_end _ _ _ _ _ _ c.characters.invariant.3 (search rules)).line_is

pub returns-in_default-clause-column : goal.returns-in_default-clause-column
returns-in_default-clause-column c = (at_end _ _ _ _ _ _ c.characters.invariant.3 (search rules)).column_is

pub characters-preserved-then-is_break : goal.characters-preserved-then-is_break
characters-preserved-then-is_break c = (
  search rules,
  search rules,
  omega (arith, c.characters.invariant.2),
  at_line _ _ _ _ _ _ _ _ (one_less _ _ _ _ _ _ (search rules) c.characters.invariant.3) c.in-Some.ensures.0 (search rules),
)

pub characters-preserved : goal.characters-preserved
characters-preserved c = (
  search rules,
  search rules,
  search rules,
  at_next _ _ _ _ _ _ _ _ (one_less _ _ _ _ _ _ (search rules) c.characters.invariant.3) c.in-Some.ensures.0 (search rules),
)

pub returns-clause-line : goal.returns-clause-line
returns-clause-line c = (at_count _ _ _ _ _ _ c.characters.invariant.3 (search rules)).line_is

pub returns-clause-column : goal.returns-clause-column
returns-clause-column c = (at_count _ _ _ _ _ _ c.characters.invariant.3 (search rules)).column_is
