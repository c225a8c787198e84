pub mod Shown
pub mod ShownQuoted
pub mod ShownBlock
pub mod ShownTag
