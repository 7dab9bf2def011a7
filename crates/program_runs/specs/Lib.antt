pub mod Serving
pub mod Programs
