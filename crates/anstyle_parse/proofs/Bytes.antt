-- Classes of bytes, and lists of bytes that pass a test.
pub mod Classes
pub mod Passing
pub mod Headers
