pub mod Made
pub mod Rows
pub mod Steps
pub mod Ways
