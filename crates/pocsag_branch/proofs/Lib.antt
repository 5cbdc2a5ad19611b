pub mod LeastBounds
pub mod NodeChildren
pub mod NodeRows
pub mod OpenWays
pub mod Prelude
pub mod Settled
pub mod TreeEnds
