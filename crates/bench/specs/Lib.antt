pub mod Receiver
pub mod Bench
pub mod Edges
pub mod Mux
pub mod Register
pub mod View
pub mod AtOnce
