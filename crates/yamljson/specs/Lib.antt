pub mod Printed
pub mod Settings
