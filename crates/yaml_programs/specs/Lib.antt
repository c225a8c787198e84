pub mod Arguments
pub mod Bounds
pub mod Done
pub mod Failing
pub mod Lines
pub mod Marked
pub mod Reading
