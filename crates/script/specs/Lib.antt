pub mod Script
pub mod Grammar
pub mod Sum
pub mod Scripts
