pub mod NodeLists
pub mod SpanSteps
pub mod Fronts
pub mod PathMatches
pub mod SharedFronts
pub mod Walks
