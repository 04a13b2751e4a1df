pub mod Transfer
pub mod Attempt
pub mod Left
pub mod Calls
pub mod Bytes
pub mod Aliases
