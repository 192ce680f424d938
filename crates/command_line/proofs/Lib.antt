pub mod WordLemmas
mod BeginningLemmas
