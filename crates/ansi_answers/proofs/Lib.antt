pub mod CallLemmas
pub mod RenditionLemmas
pub mod ByteLemmas
pub mod ReadLemmas
pub mod BlindLemmas
pub mod RoomLemmas
