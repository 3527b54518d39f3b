pub mod Rows
pub mod Schedule
pub mod Lines
