use Rattle.yaml_parser.proofs.Answering.{after_scalar, if_some_at, looked, refl, scalar_taken, taken_with, tok_of, under_no_colon, wrote, ◌≡◌}
use Rattle.yaml_parser.proofs.reader.Reader.scalar.Goals as goal

pub returns-clause-answers : goal.returns-clause-answers
returns-clause-answers g c = λ context. record { so = λ o names given has h. let l = looked _ _ c.requires in wrote _ given c.write.ensures (scalar_taken _ l.1 (if_some_at (λ t. t.0 ≡ c.mark-mark.result) c.mark-mark.ensures l.1) (taken_with c.take_scalar-style.ensures.skips l.1) refl refl (if_some_at (λ t. tok_of t.1 ≡ _) c.take_scalar-style.ensures.texts l.1) (after_scalar _ _ o _ _) c.in_ok-anchor.ensures.registers (under_no_colon _ h.stands.fits.0) has h) }
