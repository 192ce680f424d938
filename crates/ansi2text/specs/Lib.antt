pub mod Ending
pub mod Streams
pub mod Words
