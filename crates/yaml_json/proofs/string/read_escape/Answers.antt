use Rattle.yaml_json.proofs.Answering.{short_ascii, short_read, sym, took, ◌∙◌}
use Rattle.yaml_json.proofs.string.read_escape.Goals as goal

pub skip-requires : goal.skip-requires
skip-requires c =
    let ascii = short_ascii c.peek-letter.result c.in-Some.character c.in-Some.ensures in
    let f = c.peek-letter.ensures ascii.0 ascii.1 in
    record { first = c.peek-letter.result; rest = f.rest; ascii = ascii.1; is = f.is }

pub returns : goal.returns
returns c =
    let ascii = short_ascii c.peek-letter.result c.in-Some.character c.in-Some.ensures in
    let same = rw c.if-take.false at c.take.ensures in
    short_read c.in-Some.ensures
    (sym same ∙ took c.peek-letter.result c.take.new.self c.skip.new.self c.peek-letter.ensures ascii.0 ascii.1 c.skip.ensures)
