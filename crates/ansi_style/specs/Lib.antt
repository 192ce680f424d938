pub mod Style
pub mod Rendition
pub mod Walk
pub mod Codes
pub mod Bytes
