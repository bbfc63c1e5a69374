pub mod Bits
pub mod Grammar
pub mod Nearest
pub mod Numeral
pub mod Place
pub mod says
