pub mod Answers
mod BlockLines
mod Common
pub mod CutTexts
pub mod DocumentTrees
pub mod Dumps
pub mod InTurn
pub mod InsideNode
pub mod JsonNul
pub mod JsonTokens
pub mod LayoutNul
pub mod LayoutTexts
pub mod LayoutTokens
pub mod Loads
mod MeaningRows
pub mod Nul
pub mod OneFault
pub mod OneListBefore
pub mod OneReading
mod PlainTexts
pub mod Pulled
pub mod QuotedTexts
pub mod QuotedTokens
pub mod RowTexts
pub mod HasRows
pub mod Settled
pub mod Spelled
pub mod StreamEnds
mod Tests
pub mod Texts
pub mod TokensInTurn
