pub mod Continuing
pub mod Fronts
pub mod LentLemmas
pub mod LogLemmas
pub mod LogLength
pub mod LogQuoted
