mod Blocks
mod BufferLaws
mod BufferTexts
mod FoundEntries
mod FoundRuns
mod LaidEntries
mod ListedItems
mod LongLists
mod LongRemovals
mod Opened
mod ReturnedLists
mod TracedCalls
pub mod InstalledPaths
pub mod LeftReplies
pub mod LocatedHere
mod PrintedReplies
