use Rattle.yaml_parser.proofs.Answering.{Err, arith, directing_on, Goal, on_err, refl}
use Rattle.yaml_parser.proofs.reader.Reader.directives.Goals as goal

pub returns-in_err-next-clause-err : goal.returns-in_err-next-clause-err
returns-in_err-next-clause-err g c = on_err _ c.from_residual.result
    (λ names given h. let d = c.directives.invariant.at names given h in (c.in_err-next.ensures.stops (Goal.directives d.read) refl (Err c.in_err-next.field-0.0) refl).so names given d.here)

pub returns-in_err-version-in-VersionDirective-clause-err : goal.returns-in_err-version-in-VersionDirective-clause-err
returns-in_err-version-in-VersionDirective-clause-err g c = on_err _ c.from_residual-in_err-version-in-VersionDirective.result
    (λ names given h. c.in_err-version-in-VersionDirective.ensures.directs names given (directing_on c.in_ok-next.ensures.at c.in_ok-next.ensures.names c.in_ok-next.ensures.taken (c.directives.invariant.at names given h)))

pub directives-preserved-in-VersionDirective : goal.directives-preserved-in-VersionDirective
directives-preserved-in-VersionDirective g c = record {
  work = omega (arith, c.in_ok-version-in-VersionDirective.ensures.bounds.bound, c.in_ok-next.ensures.bounds.bound, c.directives.invariant.work);
  input = record { keeping = cc; start = cc };
  at = λ names given h. c.in_ok-version-in-VersionDirective.ensures.directs names given (directing_on c.in_ok-next.ensures.at c.in_ok-next.ensures.names c.in_ok-next.ensures.taken (c.directives.invariant.at names given h));
}

pub directives-preserved : goal.directives-preserved
directives-preserved g c = record {
  work = omega (arith, c.in_ok-tag_directive-in-TagDirective.ensures.bounds.bound, c.in_ok-next.ensures.bounds.bound, c.directives.invariant.work);
  input = record { keeping = cc; start = cc };
  at = λ names given h. c.in_ok-tag_directive-in-TagDirective.ensures.directs c.directives.versioned names given (directing_on c.in_ok-next.ensures.at c.in_ok-next.ensures.names c.in_ok-next.ensures.taken (c.directives.invariant.at names given h));
}

pub returns-in_err-tag_directive-in-TagDirective-clause-err : goal.returns-in_err-tag_directive-in-TagDirective-clause-err
returns-in_err-tag_directive-in-TagDirective-clause-err g c = on_err _ c.from_residual-in_err-tag_directive-in-TagDirective.result
    (λ names given h. c.in_err-tag_directive-in-TagDirective.ensures.directs c.directives.versioned names given (directing_on c.in_ok-next.ensures.at c.in_ok-next.ensures.names c.in_ok-next.ensures.taken (c.directives.invariant.at names given h)))

pub returns-in_default-clause-at : goal.returns-in_default-clause-at
returns-in_default-clause-at g c = λ names given h. let d = c.directives.invariant.at names given h in (d.read, c.in_ok-next.ensures.at (Goal.directives d.read) refl names given d.here)
