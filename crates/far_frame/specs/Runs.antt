-- The effect of a list of steps on the rows, without the aggregates.
use Rattle.std.specs.Prelude.{ℕ, Bool, true, false, cond, List, [], ◌∷◌, Option, None, Some}
use Rattle.far_types.specs.Edits.{places_after}
use Rattle.far_types.specs.Table.{Place}
use Rattle.far_frame.specs.declared.step.Step.{Step}
use Rattle.far_frame.specs.declared.step.Step.TheVariants as step
use Rattle.far_frame.specs.declared.step.Reply.{Reply}
use Rattle.far_frame.specs.declared.step.Reply.TheVariants as reply

-- whether a reply is a refusal
abbrev pub is_refused : Reply → Bool
is_refused (reply.Place place) = false
is_refused reply.Done = false
is_refused (reply.Aggregate a) = false
is_refused (reply.Answer answer) = false
is_refused (reply.Ints pieces) = false
is_refused (reply.Texts pieces) = false
is_refused (reply.Job n) = false
is_refused (reply.Next found) = false
is_refused (reply.Refused refusal) = true

-- the rows after an accepted step: only edits change them
abbrev pub rows_after : Step → List Place → List Place
rows_after (step.Edit e) places = places_after e places
rows_after (step.Watch spec) places = places
rows_after (step.Unwatch a) places = places
rows_after (step.ScanGroup a g) places = places
rows_after (step.Ask a) places = places
rows_after (step.Lend column from to) places = places
rows_after (step.Pin column group) places = places
rows_after (step.Unpin column group) places = places
rows_after (step.Compact kind segment) places = places
rows_after (step.Prefetch column) places = places
rows_after (step.BeginEvac column group) places = places
rows_after (step.BeginFetch column group) places = places
rows_after (step.BeginOffload a g) places = places
rows_after (step.Carry n) places = places
rows_after (step.Commit n) places = places
rows_after (step.Install n) places = places
rows_after (step.Merge n) places = places

-- the plain list after the accepted edits
abbrev pub plain_rows : List Step → List Reply → List Place → List Place
plain_rows [] replies places = places
plain_rows (s ∷ steps) [] places = places
plain_rows (s ∷ steps) (given ∷ replies) places = plain_rows steps replies
    (cond (is_refused given) places (rows_after s places))

-- whether the step lends a part of a column, pins or moves objects, proposes which to move next, or concerns a job that does
abbrev pub is_movement : Step → Bool
is_movement (step.Edit e) = false
is_movement (step.Watch spec) = false
is_movement (step.Unwatch a) = false
is_movement (step.ScanGroup a g) = false
is_movement (step.Ask a) = false
is_movement (step.Lend column from to) = true
is_movement (step.Pin column group) = true
is_movement (step.Unpin column group) = true
is_movement (step.BeginEvac column group) = true
is_movement (step.BeginFetch column group) = true
is_movement (step.BeginOffload a g) = true
is_movement (step.Carry n) = true
is_movement (step.Commit n) = true
is_movement (step.Install n) = true
is_movement (step.Merge n) = false
is_movement (step.Compact kind segment) = true
is_movement (step.Prefetch column) = true

-- the number of the job that the step carries or ends
abbrev pub job_of : Step → Option ℕ
job_of (step.Carry n) = Some n
job_of (step.Commit n) = Some n
job_of (step.Install n) = Some n
job_of (step.Merge n) = Some n
job_of _ = None

-- the number of the job that the step ends
abbrev pub end_of : Step → Option ℕ
end_of (step.Commit n) = Some n
end_of (step.Install n) = Some n
end_of (step.Merge n) = Some n
end_of _ = None
