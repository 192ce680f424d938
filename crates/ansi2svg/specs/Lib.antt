pub mod Words
pub mod Picture
pub mod PictureProof
