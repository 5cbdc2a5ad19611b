pub mod Adding
pub mod Beginnings
pub mod Children
pub mod Leasts
pub mod Levels
pub mod Narrows
pub mod Prelude
pub mod Shares
