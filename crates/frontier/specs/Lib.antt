pub mod Order
pub mod Bags
pub mod Disciplines
pub mod Named
pub mod Holding
pub mod Rooms
pub mod Runs
