pub mod TextLaws
pub mod DigestLaws
pub mod AreaLaws
pub mod FieldLaws
pub mod AnswerLaws
