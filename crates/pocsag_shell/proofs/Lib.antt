pub mod Folders
pub mod Loads
pub mod Placements
pub mod Prelude
pub mod Printed
pub mod Readers
pub mod Runs
pub mod StagedFiles
