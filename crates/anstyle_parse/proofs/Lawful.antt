-- The calls of bytes are lawful.
pub mod Headers
pub mod Parts
pub mod Calls
