pub mod Numbers
pub mod Spaces
pub mod TextRows
pub mod Texts
