-- Whole lists of bytes: what they are cut into, which calls that makes, and the canonical
-- text of calls. The headline says no more than what stands here.
pub mod Bytes
pub mod Characters
pub mod Arguments
pub mod Groups
pub mod Call
pub mod Items
pub mod Calls
pub mod Canon
pub mod Texts
