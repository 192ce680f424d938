mod StreamLemmas
pub mod VisibleLemmas
