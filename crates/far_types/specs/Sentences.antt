-- What a refusal prints: a sentence without a full stop.
use Rattle.std.specs.Prelude.{List, ℕ, ◌++◌, codes, decimal}
use Rattle.far_types.specs.declared.refusal.Refusal.{Refusal}
use Rattle.far_types.specs.declared.refusal.Refusal.TheVariants.{NoMemory, BadSchema, BadSpec, NoColumn, WrongKind, RowWidth, TextTooLong, NoRow, RemovedRow, TableFull, ChunkFull, NoAggregate, TooManyAggregates, OutOfRange, Building, Absent, RegionFull, NotPinned, Pinned, StaleJob, FarFault, FarFull, EditsUsedUp}

-- the sentence that a refusal prints, with the numbers that it carries
abbrev pub sentence_of : Refusal → List ℕ
sentence_of NoMemory = codes "memory ran out"
sentence_of BadSchema = codes "a table may not have this schema or these limits"
sentence_of BadSpec = codes "the aggregate or the gauge is not an allowed one"
sentence_of NoColumn = codes "there is no such column"
sentence_of WrongKind = codes "a value is of another kind than its column"
sentence_of RowWidth = codes "the row needs one cell for each column"
sentence_of TextTooLong = codes "a text has more than 4,096 bytes"
sentence_of NoRow = codes "there is no such place"
sentence_of RemovedRow = codes "the row was removed"
sentence_of TableFull = codes "the table has as many places as it may"
sentence_of ChunkFull = codes "the row group's texts would not fit a segment"
sentence_of NoAggregate = codes "no aggregate has this number"
sentence_of TooManyAggregates = codes "no further aggregate may be registered"
sentence_of OutOfRange = codes "a number is out of its range"
sentence_of (Building left) = codes "row groups still to be scanned: " ++ decimal left
sentence_of (Absent column group) = codes "column "
    ++ decimal column
    ++ codes " of row group "
    ++ decimal group
    ++ codes " is away"
sentence_of RegionFull = codes "local memory has no room for the object"
sentence_of NotPinned = codes "the object has no pin"
sentence_of Pinned = codes "the object is pinned"
sentence_of StaleJob = codes "what the job or the scan rests on does not hold"
sentence_of FarFault = codes "the far store failed"
sentence_of FarFull = codes "the far store is full"
sentence_of EditsUsedUp = codes "no further edit, job, write or pin is allowed"
