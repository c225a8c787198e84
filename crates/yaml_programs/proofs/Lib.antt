pub mod AppendsLemmas
pub mod Asks
mod Common
pub mod DoneFiles
mod EventRows
pub mod Places
mod Rows
