pub mod CaptureRows
pub mod CapturedTexts
pub mod Prelude
pub mod Read
pub mod Received
pub mod Streams
pub mod Works
