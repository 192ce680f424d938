-- What the further laws speak of: lawful lists of calls, how much text they lead to, the text of a
-- checkpoint, the Debug text of parameters and its law.
pub mod Lawful
pub mod TextLength
pub mod Lighter
pub mod LogItems
pub mod Checkpoint
pub mod DebugText
pub mod TextLaw
