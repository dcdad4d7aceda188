mod ClosingSessions
pub mod Histories
pub mod HistoriesLegality
pub mod Lists
pub mod RuleLaws
pub mod Sent
pub mod Spent
