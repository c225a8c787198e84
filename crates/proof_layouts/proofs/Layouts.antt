pub mod Documents
pub mod Nodes
pub mod Reading
pub mod Rows
