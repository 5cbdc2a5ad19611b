pub mod Keys
pub mod Levels
pub mod Samples
pub mod Sounds
pub mod Wav
