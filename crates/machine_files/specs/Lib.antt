pub mod FaultText
pub mod Fields
pub mod DriverText
pub mod MachineText
pub mod Laws
