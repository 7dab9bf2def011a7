pub mod Bounds
pub mod Fields
pub mod Making
pub mod RecordLists
pub mod Spelling
