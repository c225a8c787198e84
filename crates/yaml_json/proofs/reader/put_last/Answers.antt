use Rattle.yaml_json.proofs.Answering.{ap, arith, is_some, last_put, ok_of, vec_len, view}
use Rattle.yaml_json.proofs.reader.put_last.Goals as goal

pub returns-in-Some-clause-puts : goal.returns-in-Some-clause-puts
returns-in-Some-clause-puts c =
    ok_of _ _ c.put.result
    (λ ended puts. last_put c.args.opened.now.items (vec_len c.args.opened.now) c.in-Some.innermost.now c.put.new.self (view c.args.value) ended c.args.cursor.now c.put.new.cursor (omega arith) (c.last_mut.ensures.variant.0 (ap is_some c.in-Some.is)) c.in-Some.ensures.value puts)
    c.put.ensures.puts
