pub mod Stream
pub mod Machine
pub mod Laws
pub mod Views
pub mod Io
