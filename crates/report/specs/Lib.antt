pub mod Number
pub mod Start
