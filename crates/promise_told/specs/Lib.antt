pub mod DictionaryNumbers
pub mod LayoutNumbers
pub mod RunNumbers
pub mod AnswerNumbers
pub mod LengthNumbers
pub mod ToldUncut
