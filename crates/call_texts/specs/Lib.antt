pub mod CallText
pub mod WordText
pub mod Laws
pub mod CallLines
pub mod CallTraces
