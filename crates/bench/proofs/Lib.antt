pub mod Laws
pub mod Mux
pub mod Word
