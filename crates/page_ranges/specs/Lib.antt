pub mod MemoryTypes
pub mod Granules
pub mod Memory
pub mod MemoryMap
pub mod Cursors
pub mod Runs
pub mod Laws
pub mod Statuses
