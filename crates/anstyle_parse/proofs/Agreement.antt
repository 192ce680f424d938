-- The machine makes the calls of the division.
pub mod Values
pub mod Escape
pub mod Headers
pub mod Strings
pub mod Whole
pub mod Forgotten
pub mod Fronts
