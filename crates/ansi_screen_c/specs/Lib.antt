pub mod Handle
pub mod Calls
pub mod ShownHandle
pub mod ShownCalls
