-- Bytes to trees.
pub use Rattle.yaml_rust2.specs.Decoding.{IsDecodedByCalls, ignored, malformed, means, parts, replaced, strict}
pub use Rattle.yaml_rust2.specs.Outcomes.{OutcomeIs}
pub use Rattle.yaml_rust2.specs.Read.{HasBytes, IsNoInterruption, LeavesEnd, LoadedIs, WhereLoaded, wants_memory}
pub use Rattle.yaml_rust2.specs.Steps.{IsStep}
