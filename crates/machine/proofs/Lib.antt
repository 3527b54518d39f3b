pub mod Slots
pub mod Progress
pub mod Text
pub mod Same
