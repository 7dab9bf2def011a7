pub mod RunsBy
pub mod PlainAnswers
