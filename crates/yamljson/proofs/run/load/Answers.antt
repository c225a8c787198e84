use Rattle.yamljson.proofs.Printing.{loading}
use Rattle.yamljson.proofs.run.load.Goals as goal

pub returns-in-Ok : goal.returns-in-Ok
returns-in-Ok c =
    loading c.args.bounds c.args.text.now c.limits.result c.load_with_limits.result c.in-Ok.documents c.limits.ensures c.load_with_limits.ensures c.in-Ok.is
