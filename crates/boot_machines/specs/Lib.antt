pub mod MachineRuns
pub mod Machines
