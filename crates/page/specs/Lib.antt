pub mod Page
pub mod Walk
pub mod Calls
pub mod Runs
pub mod Spans
pub mod Accepted
pub mod Aliases
