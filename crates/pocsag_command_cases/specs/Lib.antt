pub mod CrashFolders
pub mod CrashStores
pub mod Disks
