pub mod Order
pub mod Items
pub mod Calls
pub mod Sifting
pub mod TwoKeys
