use Rattle.std.proofs.Common.{subst}
use Rattle.std.proofs.lemmas.List.{take_all}
use Rattle.defs_layout.specs.HasJson.{HasJson}
use Rattle.yaml_tree.specs.View.{view}
use Rattle.yamljson.specs.Printed.{HaveJson}
use Rattle.yamljson.proofs.Printing.{written_more}
use Rattle.yamljson.proofs.run.write_lines.Goals as goal

pub documents-preserved : goal.documents-preserved
documents-preserved c =
    written_more c.args.documents.now c.documents.index c.index-documents-index.result c.documents-test.true
    (subst (λ y. HasJson (view y)) c.index-documents-index.is (c.in-Ok.ensures {u = tt})) c.documents.invariant

pub returns : goal.returns
returns c = subst HaveJson (take_all c.documents.index c.args.documents.now c.documents-test.false) c.documents.invariant
