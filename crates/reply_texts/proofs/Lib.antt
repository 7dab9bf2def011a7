pub mod CallTexts
pub mod JoinedTexts
