pub mod WalkLemmas
pub mod RenditionLemmas
pub mod CodesLemmas
pub mod EqualityLemmas
