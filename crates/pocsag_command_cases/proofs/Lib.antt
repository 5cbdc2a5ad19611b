pub mod CrashFolders
pub mod Disks
pub mod Prelude
