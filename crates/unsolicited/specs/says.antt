pub mod Dates
pub mod Gnss
pub mod Registration
pub mod Urc
