use Rattle.yamljson.proofs.Printing.{printing}
use Rattle.yamljson.proofs.run.lines_of.Goals as goal

pub returns : goal.returns
returns c =
    printing c.args.program c.args.path.now c.args.bytes.items c.in_ok-text.text c.as_str-text.result.now c.in_ok-documents.documents c.as_slice.result.now
    (c.in_ok-text.ensures {u = tt}) c.as_str-text.ensures.value (c.in_ok-documents.ensures {u = tt}) c.as_slice.ensures.value (c.in_ok-lines.ensures {u = tt})
