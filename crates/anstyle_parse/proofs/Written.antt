-- Texts that are written part by part.
pub mod Output
pub mod Run
pub mod Texts
