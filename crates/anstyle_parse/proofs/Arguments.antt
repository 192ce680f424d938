-- Headers and texts, byte by byte and whole.
pub mod Decimals
pub mod Lengths
pub mod Groups
pub mod Starts
pub mod Shown
pub mod HeaderFold
pub mod TextFold
pub mod Stored
pub mod Taken
pub mod Written
