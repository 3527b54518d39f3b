pub mod Counts
pub mod Leading
pub mod Outcomes
pub mod Histories
