pub mod Bench
pub mod Sort
