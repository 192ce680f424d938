-- Canonical texts make their calls again, and are bounded.
pub mod Headers
pub mod Shown
pub mod Parts
pub mod Items
pub mod Replay
pub mod Twice
pub mod Bounds
pub mod FieldsBound
pub mod Length
pub mod TextLength
pub mod Bytes
pub mod DebugText
pub mod Written
