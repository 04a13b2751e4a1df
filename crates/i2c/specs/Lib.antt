pub mod I2c
pub mod Retry
pub mod Handshake
pub mod Calls
pub mod Direct
pub mod Paired
pub mod Shown
pub mod Aliases
