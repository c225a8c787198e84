use Rattle.yaml_loader.proofs.Common.{ap, as_boolean, as_integer, as_null, chars, refl, string_chars, sym, ◌∙◌}
use Rattle.yaml_loader.proofs.Tags.{other_tag, core_tag, other_name}
use Rattle.yaml_loader.proofs.scalar.tagged_tree.Goals as goal

pub returns-then-ne : goal.returns-then-ne
unfolding string_chars
returns-then-ne c =
    other_tag c.args.tag.now c.as_str.result.now (string_chars c.args.text) c.ne.result c.as_str.ensures.value c.ne.ensures c.if-ne.true

pub returns-in-bool : goal.returns-in-bool
unfolding string_chars
returns-in-bool c =
    c.boolean_of.ensures ∙ ap (λ b. as_boolean (chars b)) c.as_str-in-bool.ensures.value
    ∙ sym (core_tag c.args.tag.now (string_chars c.args.text) c.as_str.ensures.value c.ne.ensures c.if-ne.false c.as_str-2.ensures.value c.in-bool.is)

pub returns-in-int : goal.returns-in-int
unfolding string_chars
returns-in-int c =
    c.integer_of.ensures ∙ ap (λ b. as_integer (chars b)) c.as_str-in-int.ensures.value
    ∙ sym (core_tag c.args.tag.now (string_chars c.args.text) c.as_str.ensures.value c.ne.ensures c.if-ne.false c.as_str-2.ensures.value c.in-int.is)

pub returns-in-float : goal.returns-in-float
unfolding string_chars
returns-in-float c =
    c.real_of.ensures
    ∙ sym (core_tag c.args.tag.now (string_chars c.args.text) c.as_str.ensures.value c.ne.ensures c.if-ne.false c.as_str-2.ensures.value c.in-float.is)

pub returns-in-null : goal.returns-in-null
unfolding string_chars
returns-in-null c =
    c.null_of.ensures ∙ ap (λ b. as_null (chars b)) c.as_str-in-null.ensures.value
    ∙ sym (core_tag c.args.tag.now (string_chars c.args.text) c.as_str.ensures.value c.ne.ensures c.if-ne.false c.as_str-2.ensures.value c.in-null.is)

pub returns-in_default : goal.returns-in_default
unfolding string_chars
returns-in_default c =
    let d = c.in_default in
    other_name c.as_str-2.result.now (string_chars c.args.text) (d.not-bool, (d.not-int, (d.not-float, (d.not-null, tt))))
    ∙ sym (core_tag c.args.tag.now (string_chars c.args.text) c.as_str.ensures.value c.ne.ensures c.if-ne.false c.as_str-2.ensures.value refl)
