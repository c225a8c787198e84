use Rattle.std.proofs.Common.{Some, None, arith}
use Rattle.std.proofs.lemmas.Str.Pattern.{split_text_parts}
use Rattle.uses.specs.FrontMatter.{lf, cr_lf, closing}
use Rattle.uses.proofs.Fences.{later, nowhere, is_cut, is_uncut}
use Rattle.uses.proofs.front_matter.cut.Goals as goal

pub returns-then-lf-cr_lf-clause-cut : goal.returns-then-lf-cr_lf-clause-cut
returns-then-lf-cr_lf-clause-cut c =
    let text = c.args.page.now in
    let it = c.in-Some-Some.lf in
    let other = c.in-Some-Some.cr_lf in
    let found = c.in-Some-Some.ensures.cases in
    let found' = c.in-Some-Some.ensures'.cases in
    is_cut lf text it.0.now it.1.now c.utf8.page
    (record { parts = split_text_parts (closing lf) text (Some it) found; none = λ n lt. found.2.0 n (omega (arith, lt, found.6)) })
    (later other.0.now other.1.now
    (record { parts = split_text_parts (closing cr_lf) text (Some other) found'; none = λ n lt. found'.2.0 n (omega (arith, lt, found'.6)) })
    c.if-lf-cr_lf.true)

pub returns-else-lf-cr_lf-clause-cut : goal.returns-else-lf-cr_lf-clause-cut
returns-else-lf-cr_lf-clause-cut c =
    let text = c.args.page.now in
    let it = c.in-Some-Some.cr_lf in
    let other = c.in-Some-Some.lf in
    let found = c.in-Some-Some.ensures'.cases in
    let found' = c.in-Some-Some.ensures.cases in
    is_cut cr_lf text it.0.now it.1.now c.utf8.page
    (record { parts = split_text_parts (closing cr_lf) text (Some it) found; none = λ n lt. found.2.0 n (omega (arith, lt, found.6)) })
    (later other.0.now other.1.now
    (record { parts = split_text_parts (closing lf) text (Some other) found'; none = λ n lt. found'.2.0 n (omega (arith, lt, found'.6)) })
    (omega (arith, c.if-lf-cr_lf.false)))

pub returns-in-Some-None-clause-cut : goal.returns-in-Some-None-clause-cut
returns-in-Some-None-clause-cut c =
    let text = c.args.page.now in
    let it = c.in-Some-None.lf in
    let found = c.in-Some-None.ensures.cases in
    is_cut lf text it.0.now it.1.now c.utf8.page
    (record { parts = split_text_parts (closing lf) text (Some it) found; none = λ n lt. found.2.0 n (omega (arith, lt, found.6)) })
    (nowhere (split_text_parts (closing cr_lf) text None c.in-Some-None.ensures'.cases))

pub returns-in-None-Some-clause-cut : goal.returns-in-None-Some-clause-cut
returns-in-None-Some-clause-cut c =
    let text = c.args.page.now in
    let it = c.in-None-Some.cr_lf in
    let found = c.in-None-Some.ensures'.cases in
    is_cut cr_lf text it.0.now it.1.now c.utf8.page
    (record { parts = split_text_parts (closing cr_lf) text (Some it) found; none = λ n lt. found.2.0 n (omega (arith, lt, found.6)) })
    (nowhere (split_text_parts (closing lf) text None c.in-None-Some.ensures.cases))

pub returns-in-None-None-clause-uncut : goal.returns-in-None-None-clause-uncut
returns-in-None-None-clause-uncut c =
    let text = c.args.page.now in
    is_uncut text c.utf8.page (split_text_parts (closing lf) text None c.in-None-None.ensures.cases)
    (split_text_parts (closing cr_lf) text None c.in-None-None.ensures'.cases)
