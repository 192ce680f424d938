-- A checkpoint leads a new machine to the same place.
pub mod Held
pub mod Fields
pub mod Header
pub mod Text
pub mod Whole
pub mod Written
