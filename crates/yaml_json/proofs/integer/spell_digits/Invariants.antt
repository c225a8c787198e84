use Rattle.yaml_json.proofs.Answering.{decimal, drop, HasDigits, length, ◌++◌, ◌+◌, ◌≡◌, ◌≤◌}
use Rattle.yaml_json.proofs.integer.spell_digits.Given as goal

abbrev pub invariant-left : goal.invariant-left
invariant-left l = record {
  fits : length (decimal l.left) ≤ l.at;
  within : l.at ≤ 20;
  long : length l.bytes ≡ 20;
  digits : HasDigits l.left;
  start : l.at + length (decimal l.number) ≡ 20 + length (decimal l.left);
  written : decimal l.left ++ drop l.at l.bytes ≡ decimal l.number;
}

abbrev pub decreases-left : goal.decreases-left
decreases-left l = l.left
