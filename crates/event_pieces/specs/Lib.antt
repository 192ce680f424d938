pub mod Event
pub mod Writer
pub mod AddingProof
pub mod Feed
pub mod Ends
pub mod EndWriter
pub mod Cut
