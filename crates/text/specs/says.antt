pub mod Class
pub mod Handed
pub mod Number
pub mod Part
pub mod Reader
pub mod Refusal
