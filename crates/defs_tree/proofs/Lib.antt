mod MergeRows
mod Unmergeable
pub mod BoxLaws
pub mod DecimalReading
pub mod DigitsLaws
pub mod Examples
pub mod GrammarLaws
pub mod Letters
pub mod LinesLaws
pub mod Merging
pub mod OrderLaws
pub mod OverlayLaws
pub mod PairsLaws
pub mod Parsing
pub mod Places
pub mod ReadBack
pub mod RealTexts
pub mod TreeWords
pub mod TypingLaws
pub mod Unquoted
mod Common
