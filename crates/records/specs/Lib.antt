pub mod Fields
pub mod Bytes
pub mod Kinds
pub mod FieldsLemmas
