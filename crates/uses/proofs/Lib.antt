pub mod Collected
pub mod Converted
pub mod Fences
pub mod First
mod InTurn
pub mod Ports
pub mod Split
pub mod Taken
