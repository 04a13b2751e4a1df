pub mod Laws
pub mod Grammar
pub mod Checksum
pub mod Scripts
