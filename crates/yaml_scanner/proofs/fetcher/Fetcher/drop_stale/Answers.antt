use Rattle.yaml_scanner.proofs.Common.{held, rules}
use Rattle.yaml_scanner.proofs.HeldLemmas.{stale_dropped, stale_in_flow}
use Rattle.yaml_scanner.proofs.fetcher.Fetcher.drop_stale.Goals as goal

pub returns-then-in_flow-clause-steps : goal.returns-then-in_flow-clause-steps
returns-then-in_flow-clause-steps g c = record { comes = stale_in_flow (held c.args.self.now) _ c.in_flow.ensures c.if-in_flow.true; bounds = search rules; window = search rules }

pub returns-clause-steps : goal.returns-clause-steps
returns-clause-steps g c = record { comes = stale_dropped (held c.args.self.now) _ _ _ c.in_flow.ensures c.if-in_flow.false c.mark-mark.ensures (c.in_default.ensures.ok c.args.self.now.tokens.given); bounds = search rules; window = search rules }

pub returns-in-Err-clause-told : goal.returns-in-Err-clause-told
returns-in-Err-clause-told g c = rw c.fail.ensures.fault (stale_dropped (held c.args.self.now) _ _ _ c.in_flow.ensures c.if-in_flow.false c.mark-mark.ensures (c.in-Err.ensures.err c.args.self.now.tokens.given))

pub returns-in-Err-clause-steps : goal.returns-in-Err-clause-steps
returns-in-Err-clause-steps g c = record { comes = λ n. returns-in-Err-clause-told g c; bounds = search rules; window = search rules }
