pub mod Parameters
pub mod TraceLine
pub mod Laws
