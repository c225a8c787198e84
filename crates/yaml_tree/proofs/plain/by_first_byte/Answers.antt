use Rattle.yaml_tree.proofs.TypingCommon.{ap, arith, begins_value, false, get_or, length, nat_tests, ◌≡◌}
use Rattle.yaml_tree.proofs.TableByFirst.{by_none, by_point, by_null, by_true, by_false, by_other}
use Rattle.yaml_tree.proofs.plain.by_first_byte.Goals as goal

pub returns-in_default : goal.returns-in_default
returns-in_default c = by_none _ (omega (arith, ap length c.as_bytes.ensures.value))

pub returns-in-46 : goal.returns-in-46
returns-in-46 c = rw (c.string_or.ensures, c.is_real.ensures) (by_point _ (omega (arith, ap length c.as_bytes.ensures.value)) (rw c.as_bytes.ensures.value at c.in-46.is))

pub returns-in-126 : goal.returns-in-126
returns-in-126 c = rw (c.string_or-in-126.ensures, c.is_null.ensures) (by_null _ (omega (arith, ap length c.as_bytes.ensures.value)) (rw c.as_bytes.ensures.value at c.in-126.is))

pub returns-in-116 : goal.returns-in-116
returns-in-116 c = rw (c.string_or-in-116.ensures, c.is_true.ensures) (by_true _ (omega (arith, ap length c.as_bytes.ensures.value)) (rw c.as_bytes.ensures.value at c.in-116.is))

pub returns-in-102 : goal.returns-in-102
returns-in-102 c = rw (c.string_or-in-102.ensures, c.is_false.ensures) (by_false _ (omega (arith, ap length c.as_bytes.ensures.value)) (rw c.as_bytes.ensures.value at c.in-102.is))

pub returns-in_default-first : goal.returns-in_default-first
returns-in_default-first c =
    let plain : begins_value (get_or c.as_bytes.result.now 0 0) ≡ false = grind (arith, nat_tests) in
    by_other _ (omega (arith, ap length c.as_bytes.ensures.value)) (rw c.as_bytes.ensures.value at plain)

pub returns-in_default-first-2 : goal.returns-in_default-first-2
returns-in_default-first-2 c =
    let plain : begins_value (get_or c.as_bytes.result.now 0 0) ≡ false = grind (arith, nat_tests) in
    by_other _ (omega (arith, ap length c.as_bytes.ensures.value)) (rw c.as_bytes.ensures.value at plain)
