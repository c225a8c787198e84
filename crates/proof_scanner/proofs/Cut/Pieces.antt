pub mod Blocks
pub mod Directives
pub mod Separations
pub mod Names
pub mod Plains
pub mod Quoted
pub mod Read
pub mod Tags
