use Rattle.yaml_parser.proofs.Answering.{ap, perhaps_tag_of, placed, start_of, sym, with_number, ◌∙◌}
use Rattle.yaml_parser.proofs.reader.Reader.start.Goals as goal

pub returns-in-Sequence-clause-registers : goal.returns-in-Sequence-clause-registers
returns-in-Sequence-clause-registers g c = λ names n. with_number (λ a t. (start_of c.args.collection a t, c.args.mark)) (c.in_ok-anchor.ensures.registers names n) (ap placed c.write.ensures ∙ ap (λ k. (start_of k c.in_ok-anchor.anchor (perhaps_tag_of c.in_ok-anchor.tag), c.args.mark)) (sym c.in-Sequence.is))

pub returns-in-Mapping-clause-registers : goal.returns-in-Mapping-clause-registers
returns-in-Mapping-clause-registers g c = λ names n. with_number (λ a t. (start_of c.args.collection a t, c.args.mark)) (c.in_ok-anchor.ensures.registers names n) (ap placed c.write-in-Mapping.ensures ∙ ap (λ k. (start_of k c.in_ok-anchor.anchor (perhaps_tag_of c.in_ok-anchor.tag), c.args.mark)) (sym c.in-Mapping.is))
