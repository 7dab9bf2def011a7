pub mod MachineRunLists
