pub mod LentCells
pub mod JobsColumns
pub mod PartialsLaws
pub mod AtHandLaws
pub mod PartialsObservation
pub mod PartialsExtrema
