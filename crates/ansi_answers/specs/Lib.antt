pub mod Text
pub mod Calls
pub mod Sequences
pub mod Settings
pub mod Commands
pub mod Waiting
pub mod Laws
pub mod Room
