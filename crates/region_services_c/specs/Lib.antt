pub mod Cores
pub mod Rooms
