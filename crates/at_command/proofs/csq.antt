pub mod Laws
pub mod Percentage
