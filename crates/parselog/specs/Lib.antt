pub mod Lines
pub mod Log
pub mod Run
pub mod Words
