pub mod Values
pub mod HandleValues
pub mod ShownValues
pub mod FeedLemmas
pub mod ToldLemmas
