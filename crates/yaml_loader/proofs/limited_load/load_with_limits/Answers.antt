use Rattle.yaml_loader.proofs.LimitedCommon.{err_from_is_err_and, of_memory}
use Rattle.yaml_loader.proofs.LimitedLemmas.{fresh, loaded, not_loaded, refused}
use Rattle.yaml_loader.proofs.limited_load.load_with_limits.Goals as goal

pub returns-in_err-read : goal.returns-in_err-read
returns-in_err-read c =
    let p = err_from_is_err_and c.from_residual.result c.from_residual.ensures.1 in
    let guard = c.new-guard.ensures in
    let new = fresh c.default-loader.ensures.empty c.default-loader.ensures.no_fault guard.receiver guard.counts guard.limits guard.goes_on in
    let hands = of_memory c.new-source.result c.args.text.now c.utf8.text c.new-source.ensures (c.in_err-read.ensures {u = tt}) new.new in
    rw (p.1, p.2) (not_loaded c.args.limits _ _ (refused c.refused_texts_want_memory.ensures c.args.limits _ c.new-guard.result.receiver new.empty new.clear (rw guard.limits at hands)))

pub returns : goal.returns
returns c =
    let guard = c.new-guard.ensures in
    let new = fresh c.default-loader.ensures.empty c.default-loader.ensures.no_fault guard.receiver guard.counts guard.limits guard.goes_on in
    let hands = of_memory c.new-source.result c.args.text.now c.utf8.text c.new-source.ensures (c.in_ok-read.ensures {u = tt}) new.new in
    loaded c.taken_texts_are_loaded.ensures c.taken_events_are_read.ensures c.args.limits _ c.new-guard.result.receiver c.read.new.self.receiver c.documents_of.result new.empty new.clear (rw guard.limits at hands) c.documents_of.ensures
