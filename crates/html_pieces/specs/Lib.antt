pub mod Sizes
pub mod State
pub mod Verbatim
pub mod Feed
