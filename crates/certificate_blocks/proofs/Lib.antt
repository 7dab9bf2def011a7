pub mod BlockTexts
pub mod PrintedLines
pub mod BlockReadBack
pub mod AcceptedBlocks
pub mod BlockWords
pub mod BlockSteps
pub mod BlockParts
