use Rattle.yaml_json.proofs.Answering.{append-nil, append_assoc, arith, decimal_digit, drop-set, drop_all, has_digits, length-decimal-le, refl, two_digits, two_more, ◌+◌, ◌-◌, ◌≡◌}
use Rattle.yaml_json.proofs.integer.spell_digits.Goals as goal

pub left-init : goal.left-init
left-init c = record {
  fits = length-decimal-le 20 c.args.number (omega arith) (omega arith) c.ranges.number.fits;
  within = omega arith;
  long = omega arith;
  digits = has_digits c.args.number c.ranges.number.fits;
  start = refl;
  written = rw (drop_all 20 c.args.bytes.now (omega arith), append-nil);
}

pub left-preserved : goal.left-preserved
left-preserved c =
    let l = c.left in
    let same : l.at - 2 + 2 ≡ l.at = omega arith in
    let two = two_more l.left (omega arith) (omega (arith, l.auto.left-fits.fits)) in
    record {
      fits = omega arith;
      within = omega arith;
      long = c.put_pair.array_long;
      digits = has_digits _ (omega (arith, l.auto.left-fits.fits));
      start = omega arith;
      written = rw (c.put_pair.ensures, same) (rw (two, append_assoc) at l.invariant.written);
    }

pub returns-then-left-ge10-clause-written : goal.returns-then-left-ge10-clause-written
returns-then-left-ge10-clause-written c =
    let same : c.left.at - 2 + 2 ≡ c.left.at = omega arith in
    rw (c.put_pair-then-left-ge10.ensures, same) (rw (two_digits c.left.left (omega arith) (omega arith)) at c.left.invariant.written)

pub returns-clause-written : goal.returns-clause-written
returns-clause-written c =
    let same : c.left.at - 1 + 1 ≡ c.left.at = omega arith in
    rw (drop-set c.left.bytes (c.left.at - 1) _ (omega arith), same)
    (rw (decimal_digit c.left.left (omega arith)) at c.left.invariant.written)
