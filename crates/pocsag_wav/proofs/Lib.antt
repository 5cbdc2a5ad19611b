pub mod Prelude
pub mod Sounds
