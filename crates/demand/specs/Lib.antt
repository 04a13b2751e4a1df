pub mod Claim
pub mod PageClaim
pub mod WriteClaim
pub mod LightClaim
pub mod Mux
pub mod Fine
pub mod Library
