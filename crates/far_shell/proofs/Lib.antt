pub mod SessionsScripts
pub mod BreaksLaws
pub mod SessionsLaws
pub mod SaidLaws
pub mod ScriptsLaws
pub mod LineFaultsLaws
mod WorkingInserts
mod WorkingReadings
mod WorkingTries
mod HistoriesOneSession
mod RunsGauge
mod RunsLaws
mod RunsTotals
pub mod SeenLaws
