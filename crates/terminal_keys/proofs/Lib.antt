pub mod SequenceLemmas
pub mod ModifierLemmas
pub mod CodeLemmas
pub mod DistinctLemmas
pub mod PasteLemmas
