pub mod Line
pub mod Engines
pub mod Equipment
pub mod Refusals
pub mod Fourteen
