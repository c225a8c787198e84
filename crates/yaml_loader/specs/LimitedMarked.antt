-- A load with positions within limits.
use Rattle.std.specs.Prelude.{Result, Ok, Err, Vec}
use Rattle.std.specs.declared.alloc.Global.{Global}
use Rattle.yaml_tree.specs.declared.yaml.Yaml.{Yaml}
use Rattle.yaml_loader.specs.declared.marked_documents.MarkedDocuments.{MarkedDocuments}
use Rattle.yaml_loader.specs.declared.limits_error.LimitsError.{LimitsError}

-- the result without positions
abbrev pub without_positions : Result MarkedDocuments LimitsError → Result (Vec Yaml Global) LimitsError
without_positions (Ok d) = Ok d.documents
without_positions (Err e) = Err e
