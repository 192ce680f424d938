pub mod Hidden
pub mod Passing
pub mod PassingProof
pub mod Given
