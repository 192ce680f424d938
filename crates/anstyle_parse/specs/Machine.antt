-- The parser byte by byte: states, the table, the decoder, one step, and when a parser stands
-- after a list of bytes. The proofs show that it makes the calls of the folder Stream.
pub mod State
pub mod Table
pub mod Packed
pub mod Decoder
pub mod Step
pub mod Stands
pub mod AsRead
