pub mod Returned
pub mod Orders
pub mod Places
