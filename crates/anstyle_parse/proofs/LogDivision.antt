-- Each log has a division, and no second one, and is read as that says.
pub mod Grow
pub mod Read
pub mod Only
