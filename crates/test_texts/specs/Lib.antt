-- The words that public clauses and CALLING.md name: `yaml_rust2` alone stands in this crate's list.
pub mod Bytes
pub mod Definitions
pub mod Events
pub mod Texts
pub mod Tokens
pub mod Trees
