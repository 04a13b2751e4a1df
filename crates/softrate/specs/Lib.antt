pub mod Spot
pub mod Walk
pub mod Calls
pub mod Aliases
