pub mod DevicePaths
pub mod Locating
pub mod Reading
pub mod Boundaries
pub mod Laws
