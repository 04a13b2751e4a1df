pub mod Laws
pub mod Commands
pub mod Ends
pub mod Spreads
pub mod Noteless
pub mod Left
