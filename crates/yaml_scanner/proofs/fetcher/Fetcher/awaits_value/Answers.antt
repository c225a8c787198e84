use Rattle.yaml_scanner.proofs.Common.{refl, rules, sym, ◌∙◌}
use Rattle.yaml_scanner.proofs.fetcher.Fetcher.awaits_value.Goals as goal

pub returns : goal.returns
returns g c = record {
  settled = c.if-not-is_settled.ensures refl;
  waits = c.in_ok-value.ensures.value;
  count = c.lone_value.ensures.count (rw c.in_ok-value.was refl);
  allowed = c.if-self.false;
  opened = sym c.value_level.ensures ∙ c.in_ok-limit.was;
  deep = search rules;
  off = search rules;
}
