pub mod Question
pub mod AskedView
pub mod AnswerTexts
