pub mod BlockScalar
pub mod Breaks
pub mod Classes
pub mod Directives
pub mod FlowScalar
pub mod Position
pub mod Tags
pub mod Text
