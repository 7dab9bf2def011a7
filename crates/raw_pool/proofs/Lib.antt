pub mod Puts
pub mod Runs
pub mod Links
pub mod Marks
pub mod Scans
pub mod Changes
pub mod Cutting
pub mod Places
pub mod Listed
pub mod Takes
pub mod Gives
pub mod Writes
pub mod Regions
pub mod Longest
pub mod RawSteps
pub mod Leases
mod PageContents
mod PageRuns
mod PageUnits
mod PageRows
mod Zeros
