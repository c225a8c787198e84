use Rattle.yaml_emitter.proofs.Answering.{printable_boundary, rest_printable, ◌∙◌}
use Rattle.yaml_emitter.proofs.literal.is_printable.Goals as goal

pub split_at-requires : goal.split_at-requires
split_at-requires c = rw (c.run_length.ensures, c.as_bytes.ensures.value) (printable_boundary c.args.text.now c.utf8.text)

pub returns : goal.returns
returns c =
    c.has_literal_characters.ensures
    ∙ rw (c.split_at.ensures.back, c.run_length.ensures, c.as_bytes.ensures.value) (rest_printable c.args.text.now)
