pub mod TextLemmas
pub mod AskingLemmas
pub mod CallLemmas
pub mod ToldLemmas
