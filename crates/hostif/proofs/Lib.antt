pub mod Ends
pub mod Laws
pub mod Plain
pub mod Left
pub mod Runs
pub mod Spreads
