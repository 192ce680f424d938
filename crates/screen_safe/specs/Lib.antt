pub mod Characters
pub mod Writer
pub mod Shown
