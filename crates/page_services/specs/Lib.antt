pub mod PageRules
pub mod Laws
