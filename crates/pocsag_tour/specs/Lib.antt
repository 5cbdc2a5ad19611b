pub mod Links
pub mod Moves
pub mod Reached
pub mod Segments
