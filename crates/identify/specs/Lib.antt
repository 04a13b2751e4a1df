pub mod Place
pub mod Walk
pub mod Calls
pub mod Aliases
