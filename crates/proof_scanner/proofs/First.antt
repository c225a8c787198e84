pub mod Quoted
pub mod Reasons
pub mod Stuck
