use Rattle.yaml_scanner.proofs.PairFollows.{value_handed, value_follows}
use Rattle.yaml_scanner.proofs.fetcher.Fetcher.next_value.Goals as goal

pub returns-in-Ok-Some-clause-value : goal.returns-in-Ok-Some-clause-value
returns-in-Ok-Some-clause-value g c =
    let takes = rw c.in-Ok-Some.field-0-is at c.in-Ok-Some.ensures.value in
    let is = rw c.in-Ok-Some.field-0-is at c.in-Ok-Some.ensures.mark in
    rw (c.hand_value-text.ensures.held, c.hand_value-text.ensures.text, c.into_string.ensures)
    (value_handed c.args.self.now c.take_value.new.window c.in-Ok-Some.value c.in-Some.found.0 c.in-Some.found.1 c.in-Ok-Some.mark c.hand_value-text.new.self.levels c.in-Some.ensures takes is c.hand_value-text.ensures.levels)

pub returns-in-Ok-Some-clause-ok : goal.returns-in-Ok-Some-clause-ok
returns-in-Ok-Some-clause-ok g c =
    let takes = rw c.in-Ok-Some.field-0-is at c.in-Ok-Some.ensures.value in
    let is = rw c.in-Ok-Some.field-0-is at c.in-Ok-Some.ensures.mark in
    rw (c.hand_value-text.ensures.held, c.into_string.ensures)
    (value_follows c.args.self.now c.take_value.new.window c.in-Ok-Some.value c.in-Some.found.0 c.in-Some.found.1 c.in-Ok-Some.mark c.hand_value-text.new.self.levels c.in-Some.ensures takes is c.hand_value-text.ensures.levels c.requires)
