pub mod Guids
pub mod DriverTables
pub mod MachineRecords
