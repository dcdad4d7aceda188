mod StepsLaws
mod StoresLaws
mod MovementPins
mod PinsRows
mod PinsRefusals
mod PinsRuns
mod PinsRenewal
mod ViewsLaws
mod LiveEdits
mod CellChanges
mod LiveMoved
mod GroupsAtHand
mod GroupsRetract
mod OffloadingMerge
mod RecountingLaws
mod WaitingLaws
mod WorldsLaws
mod CarryingLaws
mod ObjectsLaws
pub mod LendingLaws
mod LendingReplies
mod LendingAccesses
mod WaitingSpentNumbers
mod WaitingNumbers
pub mod FirstOfLaws
pub mod PlainEditsLaws
mod JobsAcceptance
mod TableLaws
mod TableObjects
mod TablePins
mod TableRows
mod MovementAway
mod RowsAway
mod TableNames
mod TableChunks
mod TableDue
pub mod TableListing
mod TableRenewal
mod TableKept
