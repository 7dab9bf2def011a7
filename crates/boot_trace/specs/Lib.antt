pub mod TraceRuns
pub mod Laws
