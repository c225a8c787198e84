use Rattle.yaml_parser.proofs.Answering.{after_brackets, Ev, push_after, Raw, refl, starts}
use Rattle.yaml_parser.proofs.reader.Reader.flow_sequence.Goals as goal

pub returns-clause-answers : goal.returns-clause-answers
returns-clause-answers g c = λ context. record { so = λ o names given has h. starts _ c.start.new.self (λ a t. Raw.flow_sequence_start a t) (λ a t. Ev.sequence_start a t) c.start.result c.start.new.slot (record { resolves = λ s a t. refl; after_it = λ k s a t. refl }) c.requires refl refl refl (λ a t b k. refl) (λ o. tt) c.skip-mark.ensures.mark (push_after c.skip-mark.ensures.took c.in_ok-push.ensures.stayed) (after_brackets _ _ o) c.start.ensures.registers c.start.ensures.err (λ a t. refl) has h }
