pub mod Failures
pub mod StoreState
pub mod Faults
