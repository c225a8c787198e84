use Rattle.yaml_json.proofs.Answering.{all_left, ap, arith, entry_stopped, first_within, flat_given, flat_text_is, given_hash, is_low, left_after, left_all, left_stopped, left_writes, low_brackets, none_decide, none_left, own_no_higher, part_wide, put_in_brackets, refl, rest_left, stopped_at, stopped_early, stopped_first, stopped_for, stopped_late, sym, view, wide_within, writes_as, writes_err, writes_for, writes_late, writes_ok, wrote_then, ◌∙◌}
use Rattle.yaml_emitter.proofs.ValidLemmas.{in_any}
use Rattle.yaml_json.proofs.value.+write.Goals as goal

-- ---- nests

pub write_nest-returns-in_err-write_node-clause-text : goal.write_nest-returns-in_err-write_node-clause-text
write_nest-returns-in_err-write_node-clause-text g t c =
    let o = c.in_ok-nest.ensures.opened in
    writes_err c.from_residual-in_err-write_node.ensures.0 (left_stopped o.left (stopped_early _ (stopped_for o.no_wider (c.in_err-write_node.ensures.text.err refl))))

pub write_nest-returns-clause-text : goal.write_nest-returns-clause-text
write_nest-returns-clause-text g t c =
    left_writes (left_after c.in_ok-nest.ensures.opened.left (c.in_ok-write_node.ensures.text.ok refl)) (writes_for (λ b. absurd b) c.close_nest.ensures)

-- ---- values

pub write_value-returns-then-not-has_parts-clause-text : goal.write_value-returns-then-not-has_parts-clause-text
write_value-returns-then-not-has_parts-clause-text g t c =
    writes_as (flat_text_is (view c.args.node.now) _ _ (sym (c.if-not-has_parts.ensures {u = tt}))) (writes_for (λ b. absurd b) c.write_flat.ensures.text)

pub write_value-returns-then-not-has_parts-clause-given : goal.write_value-returns-then-not-has_parts-clause-given
write_value-returns-then-not-has_parts-clause-given g t c = in_any _ (flat_given (view c.args.node.now) (sym (c.if-not-has_parts.ensures {u = tt})) c.write_flat.ensures.given)

-- ---- nodes

pub write_node-returns-then-not-has_parts-clause-text : goal.write_node-returns-then-not-has_parts-clause-text
write_node-returns-then-not-has_parts-clause-text g t c =
    writes_as (flat_text_is (view c.args.node.now) _ _ (sym (c.if-not-has_parts.ensures {u = tt}))) (writes_for (λ b. absurd b) c.write_flat.ensures.text)

pub write_node-put_ascii-requires : goal.write_node-put_ascii-requires
write_node-put_ascii-requires g t c = ap is_low c.brackets.ensures.opening ∙ (low_brackets (view c.args.node.now)).0

pub write_node-put_ascii-requires-2 : goal.write_node-put_ascii-requires-2
write_node-put_ascii-requires-2 g t c = ap is_low c.brackets.ensures.closing ∙ (low_brackets (view c.args.node.now)).1

pub write_node-returns-in_err-inner-clause-text : goal.write_node-returns-in_err-inner-clause-text
write_node-returns-in_err-inner-clause-text g t c =
    let wide = part_wide (view c.args.node.now) (sym (c.if-not-has_parts.ensures {u = tt})) in
    writes_err c.from_residual.ensures.0 (stopped_at (rw wide (omega (arith, c.in_err-inner.ensures))) left_all)

pub write_node-returns-in_err-put_ascii-clause-text : goal.write_node-returns-in_err-put_ascii-clause-text
write_node-returns-in_err-put_ascii-clause-text g t c =
    writes_as (put_in_brackets _ c.args.margin _ _ c.brackets.ensures.opening c.brackets.ensures.closing c.in_ok-inner.ensures (sym (c.if-not-has_parts.ensures {u = tt})))
    (writes_err c.from_residual-in_err-put_ascii.ensures.0 (stopped_first _ (c.in_err-put_ascii.ensures.err refl)))

pub write_node-returns-in_err-write_parts-clause-text : goal.write_node-returns-in_err-write_parts-clause-text
write_node-returns-in_err-write_parts-clause-text g t c =
    let parts = sym (c.if-not-has_parts.ensures {u = tt}) in
    let wide = part_wide (view c.args.node.now) parts in
    writes_as (put_in_brackets _ c.args.margin _ _ c.brackets.ensures.opening c.brackets.ensures.closing c.in_ok-inner.ensures parts)
    (writes_err c.from_residual-in_err-write_parts.ensures.0 (stopped_late (c.in_ok-put_ascii.ensures.ok refl)
    (stopped_early _ (stopped_for (λ b. rw wide (omega (arith, b, c.in_ok-inner.ensures))) (c.in_err-write_parts.ensures.text.err refl)))))

pub write_node-returns-in_err-new_line-clause-text : goal.write_node-returns-in_err-new_line-clause-text
write_node-returns-in_err-new_line-clause-text g t c =
    writes_as (put_in_brackets _ c.args.margin _ _ c.brackets.ensures.opening c.brackets.ensures.closing c.in_ok-inner.ensures (sym (c.if-not-has_parts.ensures {u = tt})))
    (writes_err c.from_residual-in_err-new_line.ensures.0
    (stopped_late (c.in_ok-put_ascii.ensures.ok refl) (stopped_late (c.in_ok-write_parts.ensures.text.ok refl)
    (stopped_first _ (c.in_err-new_line.ensures.err refl)))))

pub write_node-returns-clause-text : goal.write_node-returns-clause-text
write_node-returns-clause-text g t c =
    writes_as (put_in_brackets _ c.args.margin _ _ c.brackets.ensures.opening c.brackets.ensures.closing c.in_ok-inner.ensures (sym (c.if-not-has_parts.ensures {u = tt})))
    (writes_late (c.in_ok-put_ascii.ensures.ok refl) (writes_late (c.in_ok-write_parts.ensures.text.ok refl) (writes_late (c.in_ok-new_line.ensures.ok refl) (writes_for (λ b. absurd b) c.put_ascii-2.ensures))))

pub write_node-returns-then-not-has_parts-clause-given : goal.write_node-returns-then-not-has_parts-clause-given
write_node-returns-then-not-has_parts-clause-given g t c = in_any _ (flat_given (view c.args.node.now) (sym (c.if-not-has_parts.ensures {u = tt})) c.write_flat.ensures.given)

pub write_parts-returns-in-Array-clause-text : goal.write_parts-returns-in-Array-clause-text
write_parts-returns-in-Array-clause-text g t c = rw c.in-Array.is c.write_items.ensures.text

pub write_parts-returns-in-Hash-clause-text : goal.write_parts-returns-in-Hash-clause-text
write_parts-returns-in-Hash-clause-text g t c = rw c.in-Hash.is c.write_members.ensures.text

-- ---- items and members: the loops

pub write_items-items-init : goal.write_items-items-init
write_items-items-init g t c = all_left c.into_iter-item-iterator.ensures.into_iter_gives

pub write_members-pairs-init : goal.write_members-pairs-init
write_members-pairs-init g t c = all_left (c.into_iter-key-iterator.ensures.into_iter_gives ∙ c.iter-key-items.ensures.pairs)

pub write_items-items-preserved : goal.write_items-items-preserved
write_items-items-preserved g t c =
    rest_left c.items.invariant c.in-Some.ensures.steps (wrote_then (c.in_ok-begin_entry.ensures.ok refl)
    (c.in_ok-write_value.ensures.text.ok refl)) c.in_ok-write_value.ensures.given

pub write_members-pairs-preserved : goal.write_members-pairs-preserved
write_members-pairs-preserved g t c =
    rest_left c.pairs.invariant c.in-Some.ensures.steps (wrote_then (c.in_ok-begin_entry.ensures.ok refl)
    (wrote_then (c.in_ok-write_key.ensures.text.ok refl) (wrote_then (c.in_ok-end_key.ensures.ok refl)
    (c.in_ok-write_value.ensures.text.ok refl)))) (c.write_key.ensures.given, c.in_ok-write_value.ensures.given)

pub write_items-write_value-requires : goal.write_items-write_value-requires
write_items-write_value-requires g t c = λ κs s. (omega (arith, first_within c.items.invariant.decide c.in-Some.ensures.steps), s)

pub write_members-write_value-requires : goal.write_members-write_value-requires
write_members-write_value-requires g t c = λ κs s. (omega (arith, first_within c.pairs.invariant.decide c.in-Some.ensures.steps), s)

-- ---- items and members: where a call is refused

pub write_items-returns-in_err-begin_entry-clause-text : goal.write_items-returns-in_err-begin_entry-clause-text
write_items-returns-in_err-begin_entry-clause-text g t c =
    entry_stopped c.items.invariant c.in-Some.ensures.steps c.from_residual.ensures.0
    (stopped_first _ (c.in_err-begin_entry.ensures.err refl))

pub write_members-returns-in_err-begin_entry-clause-text : goal.write_members-returns-in_err-begin_entry-clause-text
write_members-returns-in_err-begin_entry-clause-text g t c =
    entry_stopped c.pairs.invariant c.in-Some.ensures.steps c.from_residual.ensures.0
    (stopped_first _ (c.in_err-begin_entry.ensures.err refl))

pub write_members-returns-in_err-write_key-clause-text : goal.write_members-returns-in_err-write_key-clause-text
write_members-returns-in_err-write_key-clause-text g t c =
    entry_stopped c.pairs.invariant c.in-Some.ensures.steps c.from_residual-in_err-write_key.ensures.0
    (stopped_late (c.in_ok-begin_entry.ensures.ok refl) (stopped_first _ (c.in_err-write_key.ensures.text.err refl)))

pub write_members-returns-in_err-end_key-clause-text : goal.write_members-returns-in_err-end_key-clause-text
write_members-returns-in_err-end_key-clause-text g t c =
    entry_stopped c.pairs.invariant c.in-Some.ensures.steps c.from_residual-in_err-end_key.ensures.0
    (stopped_late (c.in_ok-begin_entry.ensures.ok refl) (stopped_late (c.in_ok-write_key.ensures.text.ok refl)
    (stopped_first _ (c.in_err-end_key.ensures.err refl))))

pub write_items-returns-in_err-write_value-clause-text : goal.write_items-returns-in_err-write_value-clause-text
write_items-returns-in_err-write_value-clause-text g t c =
    entry_stopped c.items.invariant c.in-Some.ensures.steps c.from_residual-in_err-write_value.ensures.0
    (stopped_late (c.in_ok-begin_entry.ensures.ok refl) (stopped_for
    (wide_within (g.S.Spacing.indentation c.args.spacing) c.args.margin _ _ (own_no_higher c.items.invariant c.in-Some.ensures.steps))
    (c.in_err-write_value.ensures.text.err refl)))

pub write_members-returns-in_err-write_value-clause-text : goal.write_members-returns-in_err-write_value-clause-text
write_members-returns-in_err-write_value-clause-text g t c =
    entry_stopped c.pairs.invariant c.in-Some.ensures.steps c.from_residual-in_err-write_value.ensures.0
    (stopped_late (c.in_ok-begin_entry.ensures.ok refl) (stopped_late (c.in_ok-write_key.ensures.text.ok refl)
    (stopped_late (c.in_ok-end_key.ensures.ok refl) (stopped_for
    (wide_within (g.S.Spacing.indentation c.args.spacing) c.args.margin _ _ (own_no_higher c.pairs.invariant c.in-Some.ensures.steps))
    (c.in_err-write_value.ensures.text.err refl)))))

-- ---- items and members: the end

pub write_items-returns-clause-text : goal.write_items-returns-clause-text
write_items-returns-clause-text g t c = writes_ok refl (none_left c.items.invariant c.in-None.ensures.steps.0)

pub write_members-returns-clause-text : goal.write_members-returns-clause-text
write_members-returns-clause-text g t c = writes_ok refl (none_left c.pairs.invariant c.in-None.ensures.steps.0)

pub write_items-returns-clause-given : goal.write_items-returns-clause-given
write_items-returns-clause-given g t c = none_decide c.items.invariant.decide c.in-None.ensures.steps.0

pub write_members-returns-clause-given : goal.write_members-returns-clause-given
write_members-returns-clause-given g t c =
    given_hash _ c.iter-key-items.ensures.distinct (none_decide c.pairs.invariant.decide c.in-None.ensures.steps.0)
