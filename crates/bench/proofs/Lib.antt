pub mod Feeding
pub mod One
