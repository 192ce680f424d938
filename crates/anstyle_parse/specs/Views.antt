-- What contracts show of private fields: parameters as groups, a parser as a machine, an
-- accumulator as the front of a character, what runs and texts lead to, a canonical writer as its output.
pub mod Params
pub mod Fields
pub mod Header
pub mod Command
pub mod Parser
pub mod Front
pub mod Accumulator
pub mod DecodingProof
pub mod Steps
pub mod Stage
pub mod Runs
pub mod Texts
pub mod Passing
pub mod AsRead
pub mod CanonWriter
