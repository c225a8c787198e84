pub mod ErrorReport
pub mod Excerpt
pub mod FaultLaws
pub mod Info
pub mod Problem
pub mod Shown
pub mod ShownLine
