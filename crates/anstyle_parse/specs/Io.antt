-- Readers, writers and the performers that write: what they show, what a call adds, and what
-- a whole run from a reader to a writer does.
pub mod Devices
pub mod Output
pub mod Buffer
pub mod Run
pub mod AddingProof
