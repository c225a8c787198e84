mod InStep
mod NameRows
mod NestedRows
mod PushRows
mod ReadingRows
mod ScalarRows
pub mod AllPushed
pub mod Kept
pub mod Meanings
pub mod NameLemmas
pub mod NestedTest
pub mod OneByOne
pub mod OneReading
pub mod Shaped
pub mod StreamNests
pub mod Texts
mod Common
