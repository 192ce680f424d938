-- Unicode's Table 3-7, the decoder, and the encoding of std.
pub mod Table
pub mod Tests
pub mod Decoder
pub mod Encoding
pub mod Scalars
pub mod Whole
pub mod Layout
