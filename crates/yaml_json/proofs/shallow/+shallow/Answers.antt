use Rattle.yaml_json.proofs.Answering.{ap, arith, depth, items_depth, items_of, next_item, no_items_within, no_pairs_within, nothing_within, only_within, pairs_of, scalar_within, string_chars, sym, view, ◌∙◌, ◌≡◌}
use Rattle.yaml_json.proofs.Common.{refl}
use Rattle.yaml_json.proofs.shallow.+shallow.Goals as goal

-- ---- a nest

pub is_shallow-returns-then-left-eq0 : goal.is_shallow-returns-then-left-eq0
is_shallow-returns-then-left-eq0 t c = sym (c.node.invariant.same ∙ nothing_within c.node.left _ _ c.in-Some.ensures c.if-left-eq0.true)

pub is_shallow-node-preserved : goal.is_shallow-node-preserved
is_shallow-node-preserved t c = record {
  same = c.node.invariant.same ∙ only_within c.node.left _ _ c.in-Some.ensures c.if-left-eq0.false;
  no_deeper = omega (arith, ap depth c.in-Some.ensures, c.node.invariant.no_deeper);
}

-- ---- a node

pub is_shallow-returns-in-Real : goal.is_shallow-returns-in-Real
unfolding string_chars
is_shallow-returns-in-Real t c =
    rw (c.node.invariant.same, c.in-Real.is, c.is_json_real.ensures, c.as_str.ensures.value) (sym (scalar_within _ c.node.left))

pub is_shallow-returns-else-left-gt0 : goal.is_shallow-returns-else-left-gt0
is_shallow-returns-else-left-gt0 t c =
    let none : c.node.left ≡ 0 = omega (arith, c.if-left-gt0.false) in
    rw (c.node.invariant.same, c.in-Array.is, no_items_within c.node.left (items_of c.in-Array.items) none, none) refl

pub is_shallow-returns-else-left-gt0-2 : goal.is_shallow-returns-else-left-gt0-2
is_shallow-returns-else-left-gt0-2 t c =
    let none : c.node.left ≡ 0 = omega (arith, c.if-left-gt0-2.false) in
    rw (c.node.invariant.same, c.in-Hash.is, no_pairs_within c.node.left (pairs_of c.in-Hash.pairs) none, none) refl

-- ---- the items

pub are_items_shallow-returns-then-not-is_shallow : goal.are_items_shallow-returns-then-not-is_shallow
are_items_shallow-returns-then-not-is_shallow t c =
    let first = next_item c.args.levels (view c.in-Some.item.now) (items_of c.next.new.self) in
    rw (c.items.invariant.left, c.in-Some.ensures.steps, first, ← c.is_shallow.ensures, c.if-not-is_shallow.true) refl

pub are_items_shallow-items-preserved : goal.are_items_shallow-items-preserved
are_items_shallow-items-preserved t c =
    let first = next_item c.args.levels (view c.in-Some.item.now) (items_of c.next.new.self) in
    record {
      left = rw (c.items.invariant.left, c.in-Some.ensures.steps, first, ← c.is_shallow.ensures, c.if-not-is_shallow.false) refl;
      no_deeper = omega (arith, ap (λ xs. items_depth (items_of xs)) c.in-Some.ensures.steps, c.items.invariant.no_deeper);
    }
