use Rattle.yaml_lexers.proofs.Common.{count_of, digits_from, folded, position_of, Reads, ◌-◌, ◌<◌, ◌^◌, ◌≡◌, ◌≤◌}
use Rattle.yaml_lexers.proofs.escape.read_code.Given as goal

abbrev pub invariant-digits : goal.invariant-digits
invariant-digits g l = record {
  reads : Reads l.fn.window l.window (λ a b.
      digits_from l.fn.quote.single l.fn.quote.context l.fn.quote.start (count_of l.fn.digits) 0 a (position_of l.fn.window) (folded l.fn.scalar)
      ≡ digits_from l.fn.quote.single l.fn.quote.context l.fn.quote.start l.left l.code b (position_of l.window) (folded l.fn.scalar));
  few : l.left ≤ 8;
  fits : l.code < 16 ^ (8 - l.left);
}

abbrev pub decreases-digits : goal.decreases-digits
decreases-digits g l = l.left
