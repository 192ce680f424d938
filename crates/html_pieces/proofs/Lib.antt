pub mod StateLemmas
pub mod LighterLemmas
pub mod FeedLemmas
pub mod TakesLemmas
pub mod VerbatimLemmas
