pub mod EachLemmas
mod ReadLemmas
