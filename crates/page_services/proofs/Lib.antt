pub mod Choices
pub mod Granules
