pub mod Calls
pub mod Collections
mod Common
pub mod DigitLemmas
pub mod GivenLemmas
pub mod LeftLemmas
pub mod LevelLemmas
pub mod Longer
pub mod NumberLemmas
pub mod Places
mod ReadCommon
pub mod ReadNumberLemmas
pub mod SearchLemmas
pub mod ShallowLemmas
pub mod StringLemmas
pub mod TextLemmas
mod Answering
