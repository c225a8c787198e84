pub mod Complete
pub mod Cut
pub mod First
pub mod Known
pub mod Refusals
pub mod Sound
mod Common
