pub mod Level
pub mod Examples
