-- The commands that lines spell, by the words of each part.
use Rattle.std.specs.Prelude.{ℕ, List, Option, None, Some, option_map, option_and_then, is_none, slice_get, if◌then◌else◌}
use Rattle.far_types.specs.declared.cell.Kind.{Kind}
use Rattle.far_types.specs.declared.edit.Edit.TheVariants as edit
use Rattle.far_types.specs.declared.name.Name.{Name}
use Rattle.far_frame.specs.declared.step.Step.{Step}
use Rattle.far_frame.specs.declared.step.Step.TheVariants as step
use Rattle.far_commands.specs.declared.command.Command.{Command}
use Rattle.far_commands.specs.declared.command.Command.TheVariants as command
use Rattle.far_script.specs.declared.verb.Movement.{Movement}
use Rattle.far_script.specs.declared.verb.Movement.TheVariants as movement
use Rattle.far_script.specs.declared.verb.Verb.{Verb}
use Rattle.far_script.specs.declared.verb.Verb.TheVariants as verb
use Rattle.far_script.specs.Fields.{row_of, lone_cell_of}
use Rattle.far_script.specs.Watches.{spec_of}
use Rattle.far_script.specs.Openings.{kind_named}
use Rattle.far_script.specs.Verbs.{verb_of}
use Rattle.far_script.specs.Words.{word_of, word_in, rest_of, after, number_in, last_number_in, last_long_number_in}

-- CSV
abbrev pub insert_of : List Kind → Option (List ℕ) → Option Command
insert_of kinds left = option_map (λ row. command.Step (step.Edit (edit.Insert row)))
    (option_and_then (row_of kinds) left)

-- PLACE COLUMN CSV
abbrev pub set_of : List Kind → Option (List ℕ) → Option Command
set_of kinds left =
    option_and_then (λ place. option_and_then (λ column.
    option_map (λ cell. command.Step (step.Edit (edit.Set place column cell)))
    (option_and_then (lone_cell_of (slice_get kinds column)) (after (after left))))
    (number_in (after left))) (number_in left)

-- AGGREGATE GROUP
abbrev pub scan_of : Option (List ℕ) → Option Command
scan_of left = option_and_then
    (λ aggregate. option_map (λ group. command.Step (step.ScanGroup aggregate group))
    (last_number_in (after left))) (number_in left)

-- AGGREGATE GROUP
abbrev pub offload_of : Option (List ℕ) → Option Step
offload_of left = option_and_then
    (λ aggregate. option_map (λ group. step.BeginOffload aggregate group)
    (last_number_in (after left))) (number_in left)

-- COLUMN FROM TO
abbrev pub lend_of : Option (List ℕ) → Option Step
lend_of left =
    option_and_then (λ column. option_and_then (λ from.
    option_map (λ to. step.Lend column from to) (last_number_in (after (after left))))
    (number_in (after left))) (number_in left)

-- COLUMN GROUP
abbrev pub object_in : Option (List ℕ) → Option Name
object_in left = option_and_then
    (λ column. option_map (λ group. record { column = column; group = group })
    (last_number_in (after left))) (number_in left)

-- KIND SEGMENT
abbrev pub compact_of : Option (List ℕ) → Option Step
compact_of left = option_and_then
    (λ kind. option_map (λ segment. step.Compact kind segment) (last_number_in (after left)))
    (option_and_then kind_named (word_in left))

-- the step that a word about objects or jobs spells with the rest of its line
abbrev pub movement_of : Movement → Option (List ℕ) → Option Step
movement_of movement.Lend left = lend_of left
movement_of movement.Pin left = option_map (λ object. step.Pin object.column object.group)
    (object_in left)
movement_of movement.Unpin left = option_map (λ object. step.Unpin object.column object.group)
    (object_in left)
movement_of movement.Evac left = option_map (λ object. step.BeginEvac object.column object.group)
    (object_in left)
movement_of movement.Fetch left = option_map (λ object. step.BeginFetch object.column object.group)
    (object_in left)
movement_of movement.Carry left = option_map step.Carry (last_long_number_in left)
movement_of movement.Commit left = option_map step.Commit (last_long_number_in left)
movement_of movement.Install left = option_map step.Install (last_long_number_in left)
movement_of movement.Compact left = compact_of left
movement_of movement.Prefetch left = option_map step.Prefetch (last_number_in left)
movement_of movement.Offload left = offload_of left
movement_of movement.Merge left = option_map step.Merge (last_long_number_in left)

-- a command whose only argument is a number
abbrev pub numbered : (ℕ → Command) → Option (List ℕ) → Option Command
numbered make left = option_map make (last_number_in left)

-- the command that a verb spells with the rest of its line
abbrev pub command_by : List Kind → Verb → Option (List ℕ) → Option Command
command_by kinds verb.Insert left = insert_of kinds left
command_by kinds verb.Set left = set_of kinds left
command_by kinds verb.Remove left = numbered (λ place. command.Step (step.Edit (edit.Remove place)))
    left
command_by kinds verb.Watch left = option_map (λ spec. command.Step (step.Watch spec))
    (spec_of kinds left)
command_by kinds verb.Unwatch left = numbered (λ a. command.Step (step.Unwatch a)) left
command_by kinds verb.Scan left = scan_of left
command_by kinds verb.Ask left = numbered (λ a. command.Step (step.Ask a)) left
command_by kinds verb.Load left = numbered command.Load left
command_by kinds (verb.Move movement) left = option_map command.Step (movement_of movement left)
command_by kinds verb.Dump left = if is_none left then Some command.Dump else None
command_by kinds verb.Renew left = numbered command.Renew left
command_by kinds verb.Recount left = numbered command.Recount left

-- the command that a line spells over a table of these columns
abbrev pub command_of : List Kind → List ℕ → Option Command
command_of kinds line = option_and_then (λ verb. command_by kinds verb (rest_of line))
    (verb_of (word_of line))
