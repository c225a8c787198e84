use Rattle.yaml_emitter.proofs.Answering.{ap, arith, items_text, items_view, pairs_text, valid_hash, ◌∙◌}
use Rattle.yaml_emitter.proofs.deep.Rest.of.Goals as goal

pub returns-in-Array : goal.returns-in-Array
returns-in-Array c =
    let items = ap items_view c.as_slice.ensures.value ∙ c.deref.ensures in
    rw (c.in-Array.is, items) (record {
      text = λ k m. items_text k m c.args.level _ (rw c.in-Array.is at c.requires);
      weight = omega arith;
      valid = λ v. v;
    })

pub returns-in-Hash : goal.returns-in-Hash
returns-in-Hash c =
    rw (c.in-Hash.is, c.row.ensures.pairs) (record {
      text = λ k m. pairs_text k m c.args.level _ (rw c.in-Hash.is at c.requires);
      weight = omega arith;
      valid = λ v. valid_hash _ c.row.ensures.distinct v;
    })
