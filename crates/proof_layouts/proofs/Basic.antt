pub mod Derived
pub mod Reading
pub mod Rows
