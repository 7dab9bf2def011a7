pub mod OpenItems
pub mod OpenRule
pub mod OpenRequests
pub mod Blocks
pub mod Listed
