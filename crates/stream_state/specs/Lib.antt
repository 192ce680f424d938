pub mod State
pub mod Log
pub mod Saved
pub mod Lent
