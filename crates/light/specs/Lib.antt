pub mod Words
pub mod Power
pub mod Sensed
pub mod Light
pub mod Walk
pub mod Calls
pub mod Order
pub mod Aliases
