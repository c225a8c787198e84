use Rattle.yaml_scanner.proofs.PairFollows.{key_handed, key_follows}
use Rattle.yaml_scanner.proofs.fetcher.Fetcher.next_key.Goals as goal

pub returns-in-Ok-clause-key : goal.returns-in-Ok-clause-key
returns-in-Ok-clause-key g c =
    let takes = rw c.in-Ok-Some.field-0-is at c.in-Ok-Some.ensures.key in
    let at = rw c.in-Ok-Some.field-0-is at c.in-Ok-Some.ensures.colon in
    rw (c.in-Ok.ensures.ok, c.in-Ok.ensures.text, c.into_string.ensures, c.mark-mark.ensures)
    (key_handed c.args.self.now c.take_key.new.window c.in-Ok-Some.key c.in-Ok-Some.colon c.in-Some.opens c.in-Some.ensures takes at)

pub returns-in-Ok-clause-ok : goal.returns-in-Ok-clause-ok
returns-in-Ok-clause-ok g c =
    let takes = rw c.in-Ok-Some.field-0-is at c.in-Ok-Some.ensures.key in
    let at = rw c.in-Ok-Some.field-0-is at c.in-Ok-Some.ensures.colon in
    rw (c.in-Ok.ensures.ok, c.into_string.ensures, c.mark-mark.ensures)
    (key_follows c.args.self.now c.take_key.new.window c.in-Ok-Some.key c.in-Ok-Some.colon c.in-Some.opens c.in-Some.ensures takes at c.requires)
