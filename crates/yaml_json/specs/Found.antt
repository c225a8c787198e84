-- A node that has no JSON text, as the code holds it, and as clauses see it.
use Rattle.std.specs.Prelude.{String, map}
use Rattle.defs_text.specs.Text.{string_chars}
use Rattle.defs_tree.specs.Path as tree_path
use Rattle.defs_layout.specs.Fault as fault
use Rattle.defs_layout.specs.Fault.{Fault}
use Rattle.yaml_json.specs.declared.error.Step.{Step}
use Rattle.yaml_json.specs.declared.error.Step.TheVariants as steps
use Rattle.yaml_json.specs.declared.error.Reason.{Reason}
use Rattle.yaml_json.specs.declared.error.Reason.TheVariants as reasons
use Rattle.yaml_json.specs.declared.error.NoJson.{NoJson}

-- a step
abbrev pub step_view : Step → tree_path.Step
step_view (steps.Index n) = tree_path.index n
step_view (steps.Key s) = tree_path.key (string_chars s)

-- the step to the value of this key
abbrev pub string_step : {A : Type 0} → String A → tree_path.Step
string_step s = tree_path.key (string_chars s)

-- a reason
abbrev pub reason_view : Reason → fault.Reason
reason_view reasons.Alias = fault.is_alias
reason_view reasons.BadValue = fault.is_bad_value
reason_view reasons.Number = fault.is_no_number
reason_view reasons.Key = fault.has_other_key

-- the node, by the steps to it from the root
abbrev pub fault_of : NoJson → Fault
fault_of n = record { path = map step_view n.path.items; reason = reason_view n.reason }
