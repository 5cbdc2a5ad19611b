pub mod Damage
pub mod Faults
pub mod Shown
pub mod States
pub mod Turns
