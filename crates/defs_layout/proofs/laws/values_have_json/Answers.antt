use Rattle.defs_layout.proofs.Back.{values_have_json}
use Rattle.defs_layout.proofs.laws.values_have_json.Goals as goal

pub returns : goal.returns
returns c = values_have_json
