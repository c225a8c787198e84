use Rattle.yaml_json.proofs.Answering.{blank_taken, carriage_return, line_feed, space, subst, sym, tab, TabsBeginLines, true, ◌∙◌}
use Rattle.yaml_json.proofs.cursor.Cursor.take_blank.Goals as goal

pub returns-then-take : goal.returns-then-take
returns-then-take c =
    blank_taken c.args.at_beginning _ space _ _ (λ g t. t) (rw c.if-take.true at c.take.ensures)

pub returns-then-take-2 : goal.returns-then-take-2
returns-then-take-2 c =
    let none = rw c.if-take.false at c.take.ensures in
    blank_taken c.args.at_beginning true line_feed _ _ (λ g t. t) (sym none ∙ rw c.if-take-2.true at c.take-2.ensures)

pub returns-then-take-3 : goal.returns-then-take-3
returns-then-take-3 c =
    let none = rw c.if-take.false at c.take.ensures in
    let nor = rw c.if-take-2.false at c.take-2.ensures in
    blank_taken c.args.at_beginning true carriage_return _ _ (λ g t. t)
    (sym none ∙ sym nor ∙ rw c.if-take-3.true at c.take-3.ensures)

pub returns-then-take-4 : goal.returns-then-take-4
returns-then-take-4 c =
    let none = rw c.if-take.false at c.take.ensures in
    let nor = rw c.if-take-2.false at c.take-2.ensures in
    let nor_this = rw c.if-take-3.false at c.take-3.ensures in
    let is = c.if-at_beginning.true in
    blank_taken c.args.at_beginning true tab _ _ (λ g t. (is, subst (λ x. TabsBeginLines x g) (sym is) t))
    (sym none ∙ sym nor ∙ sym nor_this ∙ rw c.if-take-4.true at c.take-then-at_beginning.ensures)
