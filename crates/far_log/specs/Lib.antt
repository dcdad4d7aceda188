pub mod RegionState
pub mod Effects
pub mod Storage
pub mod Lending
pub mod Fitting
pub mod Chunking
pub mod Skipping
pub mod Stacking
