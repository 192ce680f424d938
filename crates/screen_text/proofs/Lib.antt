pub mod CleanLemmas
pub mod ShownLemmas
pub mod EndLemmas
pub mod RewrittenLemmas
pub mod RowTextLemmas
pub mod TypedLemmas
pub mod TypingLemmas
pub mod MarkedLemmas
pub mod KeptRowsLemmas
pub mod TextLemmas
pub mod ThroughLemmas
pub mod TwiceLemmas
pub mod BoundLemmas
pub mod PageLemmas
mod RecordingLemmas
mod SizeTextLemmas
