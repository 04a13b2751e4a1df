pub mod Acquire
pub mod Calls
pub mod MuxFails
pub mod Aliases
