pub mod Bits
pub mod Characters
pub mod Packers
pub mod Text
