pub mod Chains
pub mod FileOrder
pub mod Meanings
pub mod Placement
pub mod SlotBytes
pub mod Streams
pub mod WordLists
