use Rattle.yaml_loader.proofs.Common.{err_from_is_err_and, of_parser, plain}
use Rattle.yaml_loader.proofs.MarkedTexts.{gives_documents}
use Rattle.yaml_loader.proofs.marked_load.load_marked.Goals as goal

pub returns-in_err-loader-clause-reads : goal.returns-in_err-loader-clause-reads
returns-in_err-loader-clause-reads c =
    let p = err_from_is_err_and c.from_residual.result c.from_residual.ensures.1 in
    rw (p.1, p.2) (of_parser (c.in_err-loader.ensures {u = tt}))

pub into_documents-requires : goal.into_documents-requires
into_documents-requires c = (_, c.in_ok-loader.ensures {u = tt})

pub returns : goal.returns
returns c = record {
  reads = gives_documents (plain c.into_documents.result) c.taken_texts_are_loaded.ensures (c.in_ok-loader.ensures {u = tt}) c.into_documents.ensures.gives;
  marks = c.into_documents.ensures.marks _ (c.in_ok-loader.ensures {u = tt});
}
