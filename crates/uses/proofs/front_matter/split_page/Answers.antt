use Rattle.std.specs.Prelude.{chars}
use Rattle.uses.proofs.front_matter.split_page.Goals as goal

pub returns-in_ok-front-in-Some-clause-split : goal.returns-in_ok-front-in-Some-clause-split
returns-in_ok-front-in-Some-clause-split c =
    record {
      opens = c.opens.ensures.yes c.if-not-opens.false;
      front = chars c.in-Some.front.now;
      cut = c.in-Some.ensures.cut;
      read = c.in_ok-front-in-Some.ensures.reads;
    }
