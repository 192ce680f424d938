pub mod Ending
pub mod Kinds
