pub mod Kinds
pub mod Beginning
pub mod Options
pub mod Line
pub mod Inputs
pub mod Outputs
pub mod Folder
pub mod Words
