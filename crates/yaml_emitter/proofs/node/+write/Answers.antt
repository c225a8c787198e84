use Rattle.yaml_emitter.proofs.Answering.{append_assoc, all_left, arith, block_writes, entry_stopped, first_within, flat_after, flat_valid, in_any, items_text, mark_text, none_decide, none_left, own_no_higher, pairs_text, refl, rest_left, stopped_early, stopped_first, stopped_for, stopped_late, sym, two_levels, valid_hash, view, writes_as, writes_err, writes_for, writes_late, writes_ok, wrote_then, ◌∙◌}
use Rattle.std.proofs.Math.Bool.{and-true}
use Rattle.yaml_emitter.proofs.node.+write.Goals as goal

pub write_value-returns-in_err-put_spaced-clause-text : goal.write_value-returns-in_err-put_spaced-clause-text
write_value-returns-in_err-put_spaced-clause-text g t c =
    writes_as (flat_after _ _ c.args.blocks_lower c.args.level (mark_text c.args.mark) (view c.args.node.now) (sym (c.if-not-has_parts.ensures {u = tt})))
    (writes_err c.from_residual.ensures.0 (stopped_first _ (c.in_err-put_spaced.ensures.err refl)))

pub write_value-returns-then-not-has_parts-clause-text : goal.write_value-returns-then-not-has_parts-clause-text
write_value-returns-then-not-has_parts-clause-text g t c =
    writes_as (flat_after _ _ c.args.blocks_lower c.args.level (mark_text c.args.mark) (view c.args.node.now) (sym (c.if-not-has_parts.ensures {u = tt})))
    (writes_late (c.in_ok-put_spaced.ensures.ok refl) (writes_for (λ b. absurd b) c.write_scalar.ensures.text))

pub write_value-returns-in_err-begin_block-clause-text : goal.write_value-returns-in_err-begin_block-clause-text
write_value-returns-in_err-begin_block-clause-text g t c =
    rw (← (c.if-not-has_parts.ensures {u = tt}), and-true, ← append_assoc (mark_text c.args.mark))
    (writes_err c.from_residual-in_err-begin_block.ensures.0 (stopped_first _ (c.in_err-begin_block.ensures.err refl)))

pub write_value-returns-clause-text : goal.write_value-returns-clause-text
write_value-returns-clause-text g t c =
    rw (← (c.if-not-has_parts.ensures {u = tt}), and-true, ← append_assoc (mark_text c.args.mark))
    (writes_late (c.in_ok-begin_block.ensures.ok refl) c.write_block.ensures.text)

pub write_block-returns-then-level-ge-SHALLOW-clause-text : goal.write_block-returns-then-level-ge-SHALLOW-clause-text
write_block-returns-then-level-ge-SHALLOW-clause-text g t c =
    let two = two_levels (view c.args.node.now) c.requires.block in
    writes_for (λ _. omega (arith, two, c.if-level-ge-SHALLOW.true)) c.write_deep.ensures.text

pub write_block-returns-in-Array-clause-text : goal.write_block-returns-in-Array-clause-text
write_block-returns-in-Array-clause-text g t c = grind (arith, block_writes, items_text)

pub write_block-returns-in-Hash-clause-text : goal.write_block-returns-in-Hash-clause-text
write_block-returns-in-Hash-clause-text g t c = grind (arith, block_writes, pairs_text)

pub write_value-returns-then-not-has_parts-clause-valid : goal.write_value-returns-then-not-has_parts-clause-valid
write_value-returns-then-not-has_parts-clause-valid g t c =
    in_any _ (flat_valid (view c.args.node.now) (sym (c.if-not-has_parts.ensures {u = tt})) c.write_scalar.ensures.valid)

-- ---- entries

pub write_items-items-init : goal.write_items-items-init
write_items-items-init g t c = all_left c.into_iter-item-iterator.ensures.into_iter_gives

pub write_items-items-preserved : goal.write_items-items-preserved
write_items-items-preserved g t c =
    rest_left c.items.invariant c.in-Some.ensures.steps
    (wrote_then (c.in_ok-begin_entry.ensures.ok refl) (c.in_ok-write_value.ensures.text.ok refl)) c.in_ok-write_value.ensures.valid

pub write_items-write_value-requires : goal.write_items-write_value-requires
write_items-write_value-requires g t c =
    λ κs s. (omega (arith, first_within c.items.invariant.decide c.in-Some.ensures.steps), (s, omega arith))

pub write_items-returns-in_err-begin_entry-clause-text : goal.write_items-returns-in_err-begin_entry-clause-text
write_items-returns-in_err-begin_entry-clause-text g t c =
    entry_stopped c.items.invariant c.in-Some.ensures.steps c.from_residual.ensures.0
    (stopped_first _ (c.in_err-begin_entry.ensures.err refl))

pub write_items-returns-in_err-write_value-clause-text : goal.write_items-returns-in_err-write_value-clause-text
write_items-returns-in_err-write_value-clause-text g t c =
    let own = own_no_higher c.items.invariant c.in-Some.ensures.steps in
    entry_stopped c.items.invariant c.in-Some.ensures.steps c.from_residual-in_err-write_value.ensures.0
    (stopped_late (c.in_ok-begin_entry.ensures.ok refl) (stopped_for (λ b. omega (arith, b, own))
    (c.in_err-write_value.ensures.text.err refl)))

pub write_items-returns-clause-text : goal.write_items-returns-clause-text
write_items-returns-clause-text g t c =
    writes_ok refl (none_left c.items.invariant c.in-None.ensures.steps.0)

pub write_pairs-pairs-init : goal.write_pairs-pairs-init
write_pairs-pairs-init g t c =
    all_left (c.into_iter-key-iterator.ensures.into_iter_gives ∙ c.iter-key-items.ensures.pairs)

pub write_pairs-pairs-preserved : goal.write_pairs-pairs-preserved
write_pairs-pairs-preserved g t c =
    rest_left c.pairs.invariant c.in-Some.ensures.steps
    (wrote_then (c.in_ok-begin_entry.ensures.ok refl) (c.in_ok-write_pair.ensures.text.ok refl)) c.in_ok-write_pair.ensures.valid

pub write_pairs-write_pair-requires : goal.write_pairs-write_pair-requires
write_pairs-write_pair-requires g t c =
    λ κs s. (omega (arith, first_within c.pairs.invariant.decide c.in-Some.ensures.steps), (s, omega arith))

pub write_pairs-returns-in_err-begin_entry-clause-text : goal.write_pairs-returns-in_err-begin_entry-clause-text
write_pairs-returns-in_err-begin_entry-clause-text g t c =
    entry_stopped c.pairs.invariant c.in-Some.ensures.steps c.from_residual.ensures.0
    (stopped_first _ (c.in_err-begin_entry.ensures.err refl))

pub write_pairs-returns-in_err-write_pair-clause-text : goal.write_pairs-returns-in_err-write_pair-clause-text
write_pairs-returns-in_err-write_pair-clause-text g t c =
    let own = own_no_higher c.pairs.invariant c.in-Some.ensures.steps in
    entry_stopped c.pairs.invariant c.in-Some.ensures.steps c.from_residual-in_err-write_pair.ensures.0
    (stopped_late (c.in_ok-begin_entry.ensures.ok refl) (stopped_for (λ b. omega (arith, b, own))
    (c.in_err-write_pair.ensures.text.err refl)))

pub write_pairs-returns-clause-text : goal.write_pairs-returns-clause-text
write_pairs-returns-clause-text g t c =
    writes_ok refl (none_left c.pairs.invariant c.in-None.ensures.steps.0)

pub write_pair-returns-in_err-write_spelling-clause-text : goal.write_pair-returns-in_err-write_spelling-clause-text
write_pair-returns-in_err-write_spelling-clause-text g t c =
    rw (← (c.if-is_scalar.ensures {u = tt}))
    (writes_err c.from_residual.ensures.0 (stopped_first _ (c.in_err-write_spelling.ensures.text.err refl)))

pub write_pair-returns-then-is_scalar-clause-text : goal.write_pair-returns-then-is_scalar-clause-text
write_pair-returns-then-is_scalar-clause-text g t c =
    rw (← (c.if-is_scalar.ensures {u = tt}))
    (writes_late (c.in_ok-write_spelling.ensures.text.ok refl) (writes_for (λ b. omega (arith, b)) c.write_value.ensures.text))

pub write_pair-returns-clause-text : goal.write_pair-returns-clause-text
write_pair-returns-clause-text g t c = rw (← (c.if-is_scalar.ensures {u = tt})) c.write_complex_pair.ensures.text

pub write_complex_pair-returns-in_err-write_value-clause-text : goal.write_complex_pair-returns-in_err-write_value-clause-text
write_complex_pair-returns-in_err-write_value-clause-text g t c =
    writes_err c.from_residual.ensures.0 (stopped_early _ (stopped_for (λ b. omega (arith, b)) (c.in_err-write_value.ensures.text.err refl)))

pub write_complex_pair-returns-in_err-break_line-clause-text : goal.write_complex_pair-returns-in_err-break_line-clause-text
write_complex_pair-returns-in_err-break_line-clause-text g t c =
    writes_err c.from_residual-in_err-break_line.ensures.0
    (stopped_late (c.in_ok-write_value.ensures.text.ok refl) (stopped_first _ (c.in_err-break_line.ensures.err refl)))

pub write_complex_pair-returns-clause-text : goal.write_complex_pair-returns-clause-text
write_complex_pair-returns-clause-text g t c =
    writes_late (c.in_ok-write_value.ensures.text.ok refl)
    (writes_late (c.in_ok-break_line.ensures.ok refl) (writes_for (λ b. omega (arith, b)) c.write_value-2.ensures.text))

-- ---- valid trees

pub write_pairs-returns-clause-valid : goal.write_pairs-returns-clause-valid
write_pairs-returns-clause-valid g t c =
    valid_hash _ c.iter-key-items.ensures.distinct (none_decide c.pairs.invariant.decide c.in-None.ensures.steps.0)
