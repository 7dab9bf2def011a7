pub mod Placement
pub mod Certificates
pub mod Laws
pub mod Acceptance
pub mod Search
pub mod Sides
