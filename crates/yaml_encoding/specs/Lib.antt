pub mod Decoding
pub mod Front
pub mod Trails
pub mod Encodings
pub mod Steps
pub mod Messages
pub mod Outcomes
