pub mod FindLaws
pub mod NumberLaws
pub mod DecimalLaws
pub mod FieldLaws
pub mod FieldTextLaws
pub mod FieldsLaws
pub mod PlaceLaws
pub mod SpelledLaws
