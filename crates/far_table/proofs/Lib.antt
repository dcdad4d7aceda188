pub mod FirstOfLaws
pub mod Places
pub mod EditsAcceptance
mod EditsRefusals
pub mod EditsSetRefusals
mod AccumulatorsFits
mod TableRowsEdits
mod TableRowsOpening
mod RefusingOutcome
mod OpeningWidths
mod Groups
mod GroupsColumns
pub mod WatchingColumns
pub mod WatchingLaws
pub mod WatchingScans
mod MovingLaws
mod RenewingLaws
mod FarGroupsCopies
mod OffloadingTickets
mod GroupsAway
mod MixedGroupsReads
mod PiecesLaws
mod PiecesRuns
