pub mod Answers
pub mod BoundTrees
pub mod CertificateText
pub mod Limits
pub mod Parser
pub mod Parts
pub mod Views
