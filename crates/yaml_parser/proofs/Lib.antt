pub mod Answering
pub mod Common
mod ApartRows
pub mod Arms
pub mod Completed
pub mod DirectiveLemmas
pub mod DocumentArms
pub mod Ends
pub mod Holding
pub mod LoadSteps
pub mod NameLemmas
pub mod Nesting
pub mod NodeArms
pub mod Openings
pub mod Pairs
pub mod Parsing
pub mod Peeking
pub mod Positions
mod ProblemRows
pub mod Says
pub mod Since
pub mod Steps
pub mod Ways
