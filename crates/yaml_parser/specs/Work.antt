-- A bound on the events that may still come: it falls with each event. And what reading keeps.
use Rattle.std.specs.Prelude.{◌≡◌, ℕ, ◌+◌, ◌*◌, ◌≤◌, List, [], ◌∷◌, Option, Some, None, Result, OnOk}
use Rattle.model_parser.specs.declared.state.State.{State}
use Rattle.model_parser.specs.declared.state.State.TheVariants as state
use Rattle.yaml_parser.specs.declared.reader.Reader.{Reader}
use Rattle.yaml_parser.specs.Ahead.{left}

-- what a state may bring beyond what the tokens to come bring
abbrev pub weight : State → ℕ
weight state.DocumentEnd = 2
weight state.DocumentContent = 3
weight state.Documents = 4
weight state.IndentlessSequenceItem = 2
weight state.BlockMappingValue = 2
weight state.FlowPairEnd = 2
weight state.FlowValue = 3
weight state.FlowPairKey = 4
weight state.FlowMappingValue = 2
weight (state.FlowMappingValued m) = 2
weight state.NoFlowMappingValue = 2
weight _ = 1

abbrev pub weights : List State → ℕ
weights [] = 0
weights (s ∷ ss) = weight s + weights ss

abbrev pub work : {T : Type 0} → Reader T → ℕ
work p = 4 * left p.tokens + weights p.stack

-- by how much a content lowers the bound, after these properties
abbrev pub owed : {P : Type 0} → Option P → ℕ
owed None = 2
owed (Some p) = 0

-- The text stays, and the setting whether its tag handles are kept.
pub record KeepsInput {T : Type 0} (old new : Reader T) : Type 0 where
  pub keeping : new.names.keeping ≡ old.names.keeping
  pub start : new.tokens.scanner.start ≡ old.tokens.scanner.start

-- The same; and without a fault, the bound grows by at most so much, and falls by at least so much.
pub record Moves {T A E : Type 0} (up down : ℕ) (old new : Reader T) (result : Result A E) : Type 0 where
  pub input : KeepsInput old new
  pub bound : OnOk result (work new + down ≤ work old + up)
