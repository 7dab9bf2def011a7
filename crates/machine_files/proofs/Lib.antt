pub mod EachMember
pub mod JsonTexts
pub mod InOrder
pub mod FileRuns
pub mod MachineOrder
pub mod DriverMembers
