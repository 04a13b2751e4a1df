pub mod Powers
pub mod Levels
pub mod Examples
mod Table
mod Search
