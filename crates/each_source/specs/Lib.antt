pub mod Each
pub mod Ended
pub mod Begun
pub mod BegunParts
