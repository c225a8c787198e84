mod Appended
mod Back
mod BasicRows
mod Integers
mod JsonRows
mod RowWords
mod JsonTextRows
mod LayoutRows
mod Numbers
mod Soundness
mod Strings
mod Written
pub mod Faults
pub mod InTurn
pub mod Reading
pub mod TokenRows
pub mod WholeNumbers
mod Common
