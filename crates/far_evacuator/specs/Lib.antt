pub mod Jobs
pub mod Beginning
pub mod Acceptance
