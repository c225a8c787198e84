use Rattle.yaml_lexers.proofs.Common.{position_of, Reads, ◌<◌, ◌^◌, ◌≡◌, ◌≤◌}
use Rattle.model_scanner.specs.Directive.{number, number_from}
use Rattle.yaml_lexers.proofs.directive.read_number.Given as goal

abbrev pub invariant-digits : goal.invariant-digits
invariant-digits g l = record {
  reads : Reads l.fn.window l.window (λ a b. number l.fn.start a (position_of l.fn.window) ≡ number_from l.fn.start b (record { position = position_of l.window; value = l.value; length = l.length }));
  few : l.length ≤ 9;
  fits : l.value < 10 ^ l.length;
}

abbrev pub decreases-digits : goal.decreases-digits
decreases-digits g l = l.window.left
