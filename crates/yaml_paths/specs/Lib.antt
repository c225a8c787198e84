pub mod Explained
pub mod Kinds
pub mod Laws
pub mod Marked
pub mod NoNode
pub mod Optional
pub mod Path
