pub mod Hostif
pub mod Left
pub mod Acquire
pub mod Locked
pub mod Calls
pub mod Aliases
