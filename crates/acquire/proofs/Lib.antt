pub mod Ends
pub mod Laws
pub mod Spares
pub mod MuxFails
pub mod Runs
