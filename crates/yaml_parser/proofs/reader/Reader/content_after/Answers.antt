use Rattle.yaml_parser.proofs.Answering.{is_error, Goal, refl}
use Rattle.yaml_parser.proofs.reader.Reader.content_after.Goals as goal

pub returns-in_err-next-clause-answers : goal.returns-in_err-next-clause-answers
returns-in_err-next-clause-answers g c = record { so = λ o names given has h. (c.in_err-next.ensures.stops (Goal.content c.args.context o) refl _ (is_error _ _ c.from_residual.ensures.1)).so names given h }

pub returns-clause-answers : goal.returns-clause-answers
returns-clause-answers g c = record { so = λ o names given has h. c.content.ensures.answers.so o names given has (c.in_ok-next.ensures.at (Goal.content c.args.context o) refl names given h) }
