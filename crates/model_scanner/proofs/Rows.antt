pub mod Block
pub mod Flow
pub mod Lines
pub mod Properties
pub mod Refused
pub mod Scalars
pub mod Words
