use Rattle.yaml_parser.proofs.Common.{Carries, Goal, IsOfKind, KeepsInput, work, ◌≤◌}
use Rattle.yaml_parser.proofs.reader.Reader.skip_document_ends.Given as goal

abbrev pub invariant-ends : goal.invariant-ends
invariant-ends g l = record {
  peeked : IsOfKind l.next l.self.tokens.peeked;
  work : work l.self ≤ work l.fn.self;
  input : KeepsInput l.fn.self l.self;
  at : Carries Goal.documents l.fn.self l.self;
}

abbrev pub decreases-ends : goal.decreases-ends
decreases-ends g l = work l.self
