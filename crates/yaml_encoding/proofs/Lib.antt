mod Rows
pub mod Utf8Lemmas
pub mod MessageLemmas
pub mod GrowingLemmas
pub mod MalformationLemmas
pub mod PartsLemmas
pub mod ReadLemmas
pub mod TrapLemmas
pub mod ValidLemmas
mod Common
