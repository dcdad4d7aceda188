pub mod ContentDigest
pub mod HostTickets
pub mod Lanes
pub mod Spots
