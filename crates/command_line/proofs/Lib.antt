pub mod Refusals
pub mod VersionRequests
