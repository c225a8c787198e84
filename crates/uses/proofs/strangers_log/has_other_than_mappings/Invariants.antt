use Rattle.std.proofs.Common.{◌≡◌, false}
use Rattle.std.specs.Iterator.{AlwaysYields}
use Rattle.std.specs.Str.{chars}
use Rattle.std.specs.Str.Iter.{chars_steps}
use Rattle.uses.specs.Tables.{has_other}
use Rattle.yaml_loader.specs.DocumentStream.{given}
use Rattle.uses.proofs.strangers_log.has_other_than_mappings.Given as goal

abbrev pub invariant-documents : goal.invariant-documents
invariant-documents l = record {
  text : AlwaysYields chars_steps (λ c. c) l.document-iterator.stream.start (chars l.fn.log);
  limits : l.document-iterator.limits ≡ l.fn.limits;
  going : l.document-iterator.stream.over ≡ false;
  found : l.other ≡ has_other (given l.document-iterator.stream);
}
