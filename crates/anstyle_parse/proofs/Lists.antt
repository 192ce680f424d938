-- Facts on lists that name nothing of the parser.
pub mod Passing
pub mod Parts
pub mod Splits
pub mod Joins
