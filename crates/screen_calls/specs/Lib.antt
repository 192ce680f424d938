pub mod Calls
pub mod Rows
pub mod Writer
pub mod WriterProof
pub mod Begin
pub mod Laws
