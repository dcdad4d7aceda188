-- The number and the name of each refusal.
use Rattle.std.specs.Prelude.{ℕ, List, codes}
use Rattle.far_types.specs.declared.refusal.Refusal.{Refusal}
use Rattle.far_types.specs.declared.refusal.Refusal.TheVariants.{NoMemory, BadSchema, BadSpec, NoColumn, WrongKind, RowWidth, TextTooLong, NoRow, RemovedRow, TableFull, ChunkFull, NoAggregate, TooManyAggregates, OutOfRange, Building, Absent, RegionFull, NotPinned, Pinned, StaleJob, FarFault, FarFull, EditsUsedUp}

-- the number by which scripts and documents name a refusal
abbrev pub number_of : Refusal → ℕ
number_of NoMemory = 1
number_of BadSchema = 2
number_of BadSpec = 3
number_of NoColumn = 4
number_of WrongKind = 5
number_of RowWidth = 6
number_of TextTooLong = 7
number_of NoRow = 8
number_of RemovedRow = 9
number_of TableFull = 10
number_of ChunkFull = 11
number_of NoAggregate = 12
number_of TooManyAggregates = 13
number_of OutOfRange = 14
number_of (Building left) = 15
number_of (Absent column group) = 16
number_of RegionFull = 17
number_of NotPinned = 18
number_of Pinned = 19
number_of StaleJob = 20
number_of FarFault = 21
number_of FarFull = 22
number_of EditsUsedUp = 24

-- the name of a refusal, without the numbers that it carries
abbrev pub name_of : Refusal → List ℕ
name_of NoMemory = codes "NoMemory"
name_of BadSchema = codes "BadSchema"
name_of BadSpec = codes "BadSpec"
name_of NoColumn = codes "NoColumn"
name_of WrongKind = codes "WrongKind"
name_of RowWidth = codes "RowWidth"
name_of TextTooLong = codes "TextTooLong"
name_of NoRow = codes "NoRow"
name_of RemovedRow = codes "RemovedRow"
name_of TableFull = codes "TableFull"
name_of ChunkFull = codes "ChunkFull"
name_of NoAggregate = codes "NoAggregate"
name_of TooManyAggregates = codes "TooManyAggregates"
name_of OutOfRange = codes "OutOfRange"
name_of (Building left) = codes "Building"
name_of (Absent column group) = codes "Absent"
name_of RegionFull = codes "RegionFull"
name_of NotPinned = codes "NotPinned"
name_of Pinned = codes "Pinned"
name_of StaleJob = codes "StaleJob"
name_of FarFault = codes "FarFault"
name_of FarFull = codes "FarFull"
name_of EditsUsedUp = codes "EditsUsedUp"
