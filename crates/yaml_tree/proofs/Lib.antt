mod BlocksCommon
mod Common
pub mod Comparing
pub mod Copied
pub mod DecimalLemmas
pub mod Digesting
pub mod Discarding
pub mod FirstByte
pub mod Flattened
pub mod Halving
mod IndexCommon
pub mod Indexed
pub mod ItemsLemmas
pub mod Joining
pub mod Keeping
pub mod Lending
pub mod Packing
pub mod Placed
pub mod Ranking
pub mod Rows
pub mod Starting
pub mod TableByFirst
pub mod TextLemmas
pub mod TextOrder
mod TypingCommon
pub mod TypingLemmas
pub mod Walking
pub mod WeightLemmas
pub mod WideTexts
