pub mod Common
mod PositionRows
mod RefusedRows
mod TrackRows
pub mod Block
pub mod Completions
pub mod Document
pub mod Endings
pub mod Falls
pub mod First
pub mod Flow
pub mod Mended
pub mod Nodes
pub mod OnePlacing
pub mod Places
pub mod Quiet
pub mod Runs
pub mod Settling
pub mod Standing
pub mod StepRows
pub mod Steps
pub mod Streams
pub mod Track
