pub mod ParameterLists
pub mod Fronts
pub mod NumberLists
pub mod PairLists
pub mod ParsedGuids
pub mod LineCalls
