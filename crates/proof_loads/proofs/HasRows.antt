pub mod Blocks
pub mod BlockScalars
pub mod Json
pub mod Nodes
pub mod Steps
pub mod Strings
pub mod Trails
pub mod Values
