mod Beginnings
pub mod ByteCounts
pub mod Counts
pub mod Drafts
pub mod EditRuns
pub mod EditedPages
pub mod FieldLines
pub mod Fields
pub mod KeptPages
pub mod LineFeeds
pub mod LineLengths
pub mod LinedPages
pub mod Moments
pub mod Prefixes
pub mod Prelude
pub mod Readings
pub mod Refusals
pub mod Replays
pub mod TextLines
mod PrintedReplays
pub mod TornLines
