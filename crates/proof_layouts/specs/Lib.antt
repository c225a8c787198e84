pub mod BasicNest
pub mod JsonNest
pub mod Laws
