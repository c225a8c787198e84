pub mod Along
pub mod Blocks
pub mod Bridges
pub mod Classes
pub mod Directives
pub mod Ends
pub mod Fold
pub mod Plain
pub mod Properties
pub mod Quoted
pub mod RestOfLine
pub mod Separation
mod Common
