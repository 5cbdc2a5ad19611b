pub mod Ends
pub mod FlowSums
pub mod Places
pub mod Prelude
pub mod Shifts
pub mod Steps
