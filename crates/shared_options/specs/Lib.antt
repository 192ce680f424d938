pub mod Recording
pub mod Scheme
pub mod Size
