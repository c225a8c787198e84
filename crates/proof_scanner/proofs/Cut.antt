pub mod Dispatch
pub mod Documents
pub mod Faults
pub mod Passes
pub mod Pieces
pub mod Positions
pub mod Stoods
