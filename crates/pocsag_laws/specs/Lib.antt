pub mod FewestBatches
pub mod ListedWhole
pub mod OnlySent
pub mod OpenRounds
pub mod Preambles
pub mod Reopened
