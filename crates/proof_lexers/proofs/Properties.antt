pub mod Names
pub mod TagReads
pub mod Tags
pub mod Uris
