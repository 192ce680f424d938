pub mod Following
pub mod Shown
pub mod Whole
pub mod Running
pub mod Stages
pub mod Numbers
pub mod Log
