pub mod SliceWriter
pub mod Feed
pub mod PuttingProof
pub mod Lines
