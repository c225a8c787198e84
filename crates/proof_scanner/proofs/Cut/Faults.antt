pub mod Fetches
pub mod Shown
