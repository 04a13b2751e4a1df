pub mod Bits
pub mod Lines
pub mod Machine
pub mod Always
pub mod Run
