pub mod Acceptance
pub mod Fits
