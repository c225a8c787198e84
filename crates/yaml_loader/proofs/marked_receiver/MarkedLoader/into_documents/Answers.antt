use Rattle.yaml_loader.proofs.Common.{err_from_is_err_and}
use Rattle.yaml_loader.proofs.MarkedTexts.{gives_marks}
use Rattle.yaml_loader.proofs.marked_receiver.MarkedLoader.into_documents.Goals as goal

pub returns-in_err-documents-clause-gives : goal.returns-in_err-documents-clause-gives
returns-in_err-documents-clause-gives c =
    let p = err_from_is_err_and c.from_residual.result c.from_residual.ensures.1 in
    rw (p.1, p.2) (c.in_err-documents.ensures {u = tt})

pub invariant_of-result : goal.invariant_of-result
invariant_of-result c =
    record { fits = (gives_marks c.in_ok-documents.documents c.events_are_read_as_defined.ensures c.marks_fit_their_trees.ensures c.requires.1 (c.in_ok-documents.ensures {u = tt})).0 }

pub returns-clause-marks : goal.returns-clause-marks
returns-clause-marks c = λ text taken.
    (gives_marks c.in_ok-documents.documents c.events_are_read_as_defined.ensures c.marks_fit_their_trees.ensures taken (c.in_ok-documents.ensures {u = tt})).1
