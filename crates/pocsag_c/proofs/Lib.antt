pub mod Devices
pub mod Fronts
pub mod Prelude
pub mod Records
