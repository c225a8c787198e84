pub mod Nowhere
pub mod Reading
