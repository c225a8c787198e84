pub mod BlockLemmas
pub mod DirectiveLemmas
pub mod Ends
pub mod Given
pub mod Holds
pub mod NoEnds
pub mod OnLiterals
pub mod PlainLemmas
pub mod QuotedLemmas
pub mod Rows
pub mod RunLemmas
pub mod Runs
pub mod SpaceLemmas
pub mod TagLemmas
pub mod UriLemmas
pub mod Walk
mod Common
