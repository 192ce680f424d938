pub mod TextLemmas
pub mod LawfulLemmas
