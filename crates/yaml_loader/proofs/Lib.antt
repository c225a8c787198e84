pub mod Agreement
pub mod AliasLemmas
pub mod AnyText
pub mod Beside
mod Common
pub mod CountLemmas
pub mod DocumentReading
pub mod DocumentSteps
pub mod DocumentTexts
pub mod GoOnAlike
pub mod JsonTexts
pub mod KeyText
pub mod LimitedCalls
mod LimitedCommon
pub mod LimitedLemmas
pub mod LoadLemmas
pub mod MarkedSteps
pub mod MarkedTexts
pub mod Numbers
pub mod OpenedLemmas
pub mod Seen
pub mod Tags
pub mod TextLemmas
pub mod Trees
