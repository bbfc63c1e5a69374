pub mod Wanted
pub mod Left
