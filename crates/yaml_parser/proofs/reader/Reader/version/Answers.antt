use Rattle.yaml_parser.proofs.Answering.{Directing, faulted_as, subst, version_refused, version_taken}
use Rattle.yaml_parser.proofs.reader.Reader.version.Goals as goal

pub returns-then-versioned-clause-directs : goal.returns-then-versioned-clause-directs
returns-then-versioned-clause-directs g c = λ names given d. faulted_as _ given c.halt.ensures (version_refused c.requires c.skip-mark.ensures.mark c.skip-mark.ensures.took (subst (Directing c.args.self.now names given) c.if-versioned.true d))

pub returns-clause-directs : goal.returns-clause-directs
returns-clause-directs g c = λ names given d. version_taken c.requires c.skip-mark.ensures.took (subst (Directing c.args.self.now names given) c.if-versioned.false d)
