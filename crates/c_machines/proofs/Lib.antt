pub mod Elements
pub mod Records
pub mod RunOrder
pub mod DescribedMachine
pub mod Behind
