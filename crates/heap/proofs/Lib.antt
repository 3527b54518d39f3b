pub mod Sifts
pub mod Held
pub mod Keyed
