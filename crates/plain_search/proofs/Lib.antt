pub mod PlainMaps
pub mod PlainPrices
pub mod PlainSearch
pub mod Drawn
