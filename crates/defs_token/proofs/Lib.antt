mod DroppedLine
mod Limits
mod LongDirective
mod MoreNoRows
mod MoreRows
mod NoCut
mod NoRows
mod WrongPair
mod WrongStart
pub mod Append
pub mod CutRows
pub mod Decide
pub mod Inserted
pub mod MoreRowSteps
pub mod OnLiterals
pub mod TokensOfText
pub mod RowShown
pub mod Rows
pub mod Shown
mod Common
