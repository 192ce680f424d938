pub mod Xml
pub mod Characters
pub mod Shapes
pub mod Runs
pub mod Picture
pub mod Grammar
pub mod Reading
