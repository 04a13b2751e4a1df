pub mod Bits
pub mod Distinct
pub mod Words
pub mod Always
pub mod Lines
pub mod Commands
pub mod Edges
pub mod Run
