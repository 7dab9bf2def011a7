pub mod Placed
pub mod Asked
pub mod Dropping
pub mod ListedItems
pub mod Managing
pub mod LastItems
pub mod Samples
pub mod NearRuns
