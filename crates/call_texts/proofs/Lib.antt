pub mod SpacedLines
pub mod ReadWords
pub mod ReadCalls
pub mod PrintedTraces
