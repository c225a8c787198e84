pub mod Anchors
pub mod FrontMatter
pub mod Ports
pub mod Rows
pub mod Servers
pub mod Settings
pub mod Tables
