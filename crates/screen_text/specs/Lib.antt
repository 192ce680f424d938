pub mod Rows
pub mod Lines
pub mod Shown
pub mod Writer
pub mod Laws
pub mod Options
pub mod Recording
pub mod ShowingProof
