pub mod Found
pub mod Rows
pub mod Scalars
pub mod Turns
pub mod Values
