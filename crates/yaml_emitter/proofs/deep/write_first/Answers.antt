use Rattle.yaml_emitter.proofs.Answering.{append_assoc, arith, goes_late, goes_refused, left_after, left_all, left_as, new_line, refl}
use Rattle.yaml_emitter.proofs.deep.write_first.Goals as goal

pub returns-in-Items : goal.returns-in-Items
returns-in-Items g c = rw c.in-Items.is c.write_item.ensures

pub returns-in-Pairs : goal.returns-in-Pairs
returns-in-Pairs g c = rw c.in-Pairs.is c.write_pair.ensures

pub returns-in_err-break_line-in-Value : goal.returns-in_err-break_line-in-Value
returns-in_err-break_line-in-Value g c =
    rw c.in-Value.is
    (goes_refused _ c.from_residual.ensures.0 (left_as (append_assoc (new_line c.in-Value.level) _ _) left_all)
    (c.in_err-break_line-in-Value.ensures.err refl))

pub returns-in_ok-break_line-in-Value : goal.returns-in_ok-break_line-in-Value
returns-in_ok-break_line-in-Value g c =
    rw c.in-Value.is
    (goes_late (left_after (left_as (append_assoc (new_line c.in-Value.level) _ _) left_all) (c.in_ok-break_line-in-Value.ensures.ok refl))
    (omega arith) (λ f. f) c.begin_value.ensures)
