-- Each list of bytes has one division, and no second one.
pub mod Grow
pub mod Split
pub mod Exists
pub mod Steps
pub mod Only
pub mod Ends
pub mod Begun
