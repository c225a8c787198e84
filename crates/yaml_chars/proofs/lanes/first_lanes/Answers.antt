use Rattle.std.specs.Int.RustNames.{count_ones}
use Rattle.yaml_chars.proofs.Common.{ap, is_first_byte, ones-mask_l, ◌∙◌}
use Rattle.yaml_chars.proofs.lanes.first_lanes.Goals as goal

pub returns : goal.returns
returns c = ap count_ones c.first_bytes.ensures ∙ ones-mask_l is_first_byte _
