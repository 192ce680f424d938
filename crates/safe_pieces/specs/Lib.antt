pub mod Sizes
pub mod State
pub mod Feed
