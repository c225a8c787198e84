use Rattle.yaml_parser.proofs.Answering.{reads, bare, None, refl}
use Rattle.yaml_parser.proofs.reader.Reader.node.Goals as goal

pub returns-in_default-clause-answers : goal.returns-in_default-clause-answers
returns-in_default-clause-answers g c = reads (λ names given h.
    c.content.ensures.answers.so None names given (record { both = refl; anchor = refl; tag = refl }) (bare c.args.context c.requires (c.in_default.not-Alias, c.in_default.not-Anchor, c.in_default.not-Tag) h))
