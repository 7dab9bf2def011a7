mod MadeOver
pub mod Moves
pub mod Pairs
