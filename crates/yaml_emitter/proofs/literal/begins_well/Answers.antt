use Rattle.yaml_emitter.proofs.Answering.{ap, begins_well, chars, chars-nil, chars_rest, IsUtf8, IsUtf8-past_char, nil_from_length, subst, sym, ◌∙◌}
use Rattle.yaml_emitter.proofs.Common.{chars_past_char, eq-eqb, ne_eqb, refl}
use Rattle.yaml_emitter.proofs.literal.begins_well.Goals as goal

pub characters-init : goal.characters-init
characters-init c =
    let e = ap chars_rest c.into_iter-c-iterator.ensures.into_iter_gives ∙ c.chars-c-items.ensures.rest in
    record { utf8 = subst IsUtf8 (sym e) c.utf8.text; left = ap (λ bs. begins_well (chars bs)) (sym e) }

pub returns-then-c-ne10 : goal.returns-then-c-ne10
returns-then-c-ne10 c =
    let inv = c.characters.invariant in
    rw (inv.left, chars_past_char _ _ c.in-Some.c inv.utf8 c.in-Some.ensures.steps.0, ne_eqb c.in-Some.c 10 c.if-c-ne10.true) refl

pub characters-preserved : goal.characters-preserved
characters-preserved c =
    let inv = c.characters.invariant in
    record {
      utf8 = IsUtf8-past_char _ _ c.in-Some.c inv.utf8 c.in-Some.ensures.steps.0;
      left = inv.left ∙ rw (chars_past_char _ _ c.in-Some.c inv.utf8 c.in-Some.ensures.steps.0, eq-eqb c.in-Some.c 10 c.if-c-ne10.false);
    }

pub returns : goal.returns
returns c = rw (c.characters.invariant.left, nil_from_length _ c.in-None.ensures.steps.0.0, chars-nil)
