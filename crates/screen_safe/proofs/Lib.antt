pub mod TakenLemmas
pub mod RowLemmas
pub mod ScalarLemmas
pub mod MarkedLemmas
