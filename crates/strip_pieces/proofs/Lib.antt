pub mod SliceWriterLemmas
pub mod FeedLemmas
pub mod LineLemmas
pub mod LogLemmas
