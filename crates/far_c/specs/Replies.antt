-- The replies that a step may have.
-- Internal: no public contract cites it.
use Rattle.std.specs.Prelude.{⊤}
use Rattle.far_types.specs.declared.edit.Edit.TheVariants as edit
use Rattle.far_types.specs.declared.refusal.Refusal.{Refusal}
use Rattle.far_frame.specs.declared.step.Step.{Step}
use Rattle.far_frame.specs.declared.step.Step.TheVariants as step
use Rattle.far_frame.specs.declared.step.Reply.{Reply}
use Rattle.far_frame.specs.declared.step.Reply.TheVariants as reply
use Rattle.far_frame.specs.Effects.{Replies}

-- a reply is a refusal, or has this form
abbrev pub OrRefused : (Reply → Type 0) → Reply → Type 0
OrRefused form = Replies form (λ (why : Refusal). ⊤)

abbrev pub IsRefusedReply : Reply → Type 0
IsRefusedReply (reply.Refused why) = ⊤
IsRefusedReply _ = ⊥

abbrev pub IsDone : Reply → Type 0
IsDone reply.Done = ⊤
IsDone _ = ⊥

abbrev pub IsPlace : Reply → Type 0
IsPlace (reply.Place place) = ⊤
IsPlace _ = ⊥

abbrev pub IsAggregate : Reply → Type 0
IsAggregate (reply.Aggregate a) = ⊤
IsAggregate _ = ⊥

abbrev pub IsAnswer : Reply → Type 0
IsAnswer (reply.Answer answer) = ⊤
IsAnswer _ = ⊥

abbrev pub IsJob : Reply → Type 0
IsJob (reply.Job job) = ⊤
IsJob _ = ⊥

abbrev pub IsNext : Reply → Type 0
IsNext (reply.Next groups) = ⊤
IsNext _ = ⊥

abbrev pub GivesDone : Reply → Type 0
GivesDone = OrRefused IsDone

abbrev pub GivesPlace : Reply → Type 0
GivesPlace = OrRefused IsPlace

abbrev pub GivesAggregate : Reply → Type 0
GivesAggregate = OrRefused IsAggregate

abbrev pub GivesAnswer : Reply → Type 0
GivesAnswer = OrRefused IsAnswer

abbrev pub GivesJob : Reply → Type 0
GivesJob = OrRefused IsJob

abbrev pub GivesNext : Reply → Type 0
GivesNext = OrRefused IsNext

-- the reply of a step has the step's own form; a lend may have two
abbrev pub Fits : Step → Reply → Type 0
Fits (step.Edit (edit.Insert row)) = GivesPlace
Fits (step.Edit (edit.Set place column cell)) = GivesDone
Fits (step.Edit (edit.Remove place)) = GivesDone
Fits (step.Watch spec) = GivesAggregate
Fits (step.Unwatch a) = GivesDone
Fits (step.ScanGroup a g) = GivesDone
Fits (step.Ask a) = GivesAnswer
Fits (step.Lend column from to) = λ _. ⊤
Fits (step.Pin column group) = GivesDone
Fits (step.Unpin column group) = GivesDone
Fits (step.BeginEvac column group) = GivesJob
Fits (step.BeginFetch column group) = GivesJob
Fits (step.BeginOffload a g) = GivesJob
Fits (step.Carry n) = GivesDone
Fits (step.Commit n) = GivesDone
Fits (step.Install n) = GivesDone
Fits (step.Merge n) = GivesDone
Fits (step.Compact kind segment) = GivesDone
Fits (step.Prefetch column) = GivesNext

-- a step counts no fault
abbrev pub IsQuiet : Step → Type 0
IsQuiet (step.Carry n) = ⊥
IsQuiet _ = ⊤
