pub mod Class
pub mod InMemory
pub mod BlockLines
pub mod Queue
pub mod WindowView
pub mod Run
pub mod Source
pub mod Words
