pub mod Regs
pub mod Lock
pub mod Resource
pub mod Calls
pub mod Aliases
