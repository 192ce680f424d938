pub mod Words
pub mod Names
pub mod Page
pub mod Streams
pub mod Parts
