pub mod LineLemmas
pub mod NormalLemmas
