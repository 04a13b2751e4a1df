pub mod Size
pub mod Text
