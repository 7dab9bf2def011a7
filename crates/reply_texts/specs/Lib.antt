pub mod ListTexts
pub mod PrintedText
pub mod CallText
