pub mod Numbers
pub mod DecimalDigits
pub mod Text
pub mod FieldLaws
