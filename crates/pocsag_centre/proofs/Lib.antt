pub mod AsidePages
pub mod CutFiles
pub mod Endings
pub mod FirstPart
pub mod FrontRuns
mod Judged
pub mod PlanFaults
pub mod Plans
pub mod Prelude
pub mod QueueRounds
pub mod ReportLines
pub mod SentMarks
pub mod Verified
