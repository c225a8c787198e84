pub mod EachSeparation
pub mod Separations
pub mod Positions
pub mod Spaces
pub mod WhiteSpace
