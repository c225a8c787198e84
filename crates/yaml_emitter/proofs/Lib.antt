pub mod FmtLemmas
pub mod RunLemmas
pub mod WritingLemmas
pub mod LineLemmas
pub mod NumberLemmas
pub mod EndLemmas
pub mod ByteLemmas
pub mod WordLemmas
pub mod LiteralLemmas
pub mod EntryLemmas
pub mod ValidLemmas
pub mod ListLemmas
pub mod NodeLemmas
mod Common
mod Answering
