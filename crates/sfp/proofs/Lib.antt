pub mod Ends
pub mod Laws
pub mod Finds
pub mod Spreads
