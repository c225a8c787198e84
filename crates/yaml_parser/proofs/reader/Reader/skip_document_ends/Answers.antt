use Rattle.yaml_parser.proofs.Answering.{reads, arith, Goal, goes, on_err, refl, document_turns}
use Rattle.yaml_parser.proofs.reader.Reader.skip_document_ends.Goals as goal

pub returns-in_err-next-clause-stops : goal.returns-in_err-next-clause-stops
returns-in_err-next-clause-stops g c = on_err _ c.from_residual.result (c.in_err-next.ensures.stops Goal.documents refl)

pub returns-in_err-next-2-clause-stops : goal.returns-in_err-next-2-clause-stops
returns-in_err-next-2-clause-stops g c = on_err _ c.from_residual-in_err-next-2.result
    (λ r is. reads (λ names given h. (c.in_err-next-2.ensures.stops Goal.documents refl r is).so names given (goes c.ends.invariant.peeked c.in-DocumentEnd.is refl c.skip.ensures.took (document_turns _).documents_marker refl tt refl refl (λ t i. tt) (c.ends.invariant.at names given h))))

pub ends-preserved : goal.ends-preserved
ends-preserved g c = record {
  peeked = c.in_ok-next-2.ensures.peeked;
  work = omega (arith, c.in_ok-next-2.ensures.bounds.bound, c.skip.ensures.work, c.ends.invariant.work);
  input = record { keeping = cc; start = cc };
  at = λ names given h. c.in_ok-next-2.ensures.at Goal.documents refl names given (goes c.ends.invariant.peeked c.in-DocumentEnd.is refl c.skip.ensures.took (document_turns _).documents_marker refl tt refl refl (λ t i. tt) (c.ends.invariant.at names given h));
}
