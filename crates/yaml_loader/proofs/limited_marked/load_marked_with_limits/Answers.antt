use Rattle.yaml_loader.proofs.LimitedCommon.{err_from_is_err_and, IsEmpty, of_memory, subst, sym}
use Rattle.yaml_loader.specs.LimitedMarked.{without_positions}
use Rattle.yaml_loader.proofs.LimitedLemmas.{loaded_marked, not_loaded, refused_marked, taken_all}
use Rattle.yaml_loader.proofs.limited_marked.load_marked_with_limits.Goals as goal

pub returns-in_err-read-clause-loads : goal.returns-in_err-read-clause-loads
returns-in_err-read-clause-loads c =
    let p = err_from_is_err_and c.from_residual.result c.from_residual.ensures.1 in
    let guard = c.new-guard.ensures in
    let empty = subst IsEmpty (sym guard.receiver) c.new-loader.ensures in
    let hands = of_memory c.new-source.result c.args.text.now c.utf8.text c.new-source.ensures (c.in_err-read.ensures {u = tt}) (record { counts = guard.counts; goes_on = guard.goes_on }) in
    rw (p.1, p.2) (not_loaded c.args.limits _ _ (refused_marked c.refused_texts_want_memory.ensures c.args.limits _ c.new-guard.result.receiver empty (rw guard.limits at hands)))

pub documents_of-requires : goal.documents_of-requires
documents_of-requires c =
    let guard = c.new-guard.ensures in
    let empty = subst IsEmpty (sym guard.receiver) c.new-loader.ensures in
    let hands = of_memory c.new-source.result c.args.text.now c.utf8.text c.new-source.ensures (c.in_ok-read.ensures {u = tt}) (record { counts = guard.counts; goes_on = guard.goes_on }) in
    (_, taken_all empty hands)

pub returns : goal.returns
returns c =
    let guard = c.new-guard.ensures in
    let empty = subst IsEmpty (sym guard.receiver) c.new-loader.ensures in
    let hands = of_memory c.new-source.result c.args.text.now c.utf8.text c.new-source.ensures (c.in_ok-read.ensures {u = tt}) (record { counts = guard.counts; goes_on = guard.goes_on }) in
    record {
      loads = loaded_marked c.taken_texts_are_loaded.ensures c.taken_events_are_read.ensures c.args.limits _ c.new-guard.result.receiver c.read.new.self.receiver (without_positions c.documents_of.result) empty (rw guard.limits at hands) c.documents_of.ensures.gives;
      marks = c.documents_of.ensures.marks _ (taken_all empty hands);
    }
