use Rattle.uses.specs.FrontMatter.{lf, cr_lf}
use Rattle.uses.proofs.Fences.{opens, opens_not}
use Rattle.uses.proofs.front_matter.opens.Goals as goal

pub returns-then-starts_with-clause-yes : goal.returns-then-starts_with-clause-yes
returns-then-starts_with-clause-yes c _ = opens lf c.args.page.now _ c.utf8.page c.if-starts_with.ensures.cases.1.1

pub returns-then-starts_with-2-clause-yes : goal.returns-then-starts_with-2-clause-yes
returns-then-starts_with-2-clause-yes c _ = opens cr_lf c.args.page.now _ c.utf8.page c.if-starts_with-2.ensures.cases.1.1

pub returns-clause-no : goal.returns-clause-no
returns-clause-no c _ = opens_not c.args.page.now c.utf8.page c.if-starts_with.ensures.cases c.if-starts_with-2.ensures.cases
