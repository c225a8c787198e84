mod Boxes
mod DumpLayout
pub mod Basic
pub mod Held
pub mod Json
pub mod Layouts
pub mod Loads
pub mod Numbered
pub mod Numbers
pub mod Quoted
pub mod Says
pub mod Whole
mod Common
