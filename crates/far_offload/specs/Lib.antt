pub mod AtHand
pub mod Columns
pub mod Jobs
pub mod Lent
pub mod Partials
