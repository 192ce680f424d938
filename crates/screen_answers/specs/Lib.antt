pub mod Facts
pub mod Kept
pub mod Alone
pub mod Answering
pub mod AnsweringProof
pub mod Laws
