pub mod BlockText
pub mod BlockLines
pub mod Blocks
pub mod BlockReads
pub mod BlockLaws
pub mod BlockChecks
