pub mod LinkLemmas
pub mod KeptLemmas
pub mod CallLemmas
pub mod QuietLemmas
