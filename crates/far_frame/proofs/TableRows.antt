-- After a run of the table its rows are those of the plain list after the accepted edits.
use Rattle.std.proofs.Common.{◌≡◌, ℕ, List, [], ◌∷◌, Option, None, Some, IsSomeAnd, refl, ap, ◌∙◌}
use Rattle.far_types.specs.Table.{Table}
use Rattle.far_table.specs.Watching.{after_register_at, lowest_free}
use Rattle.far_frame.specs.declared.step.Step.{Step}
use Rattle.far_frame.specs.declared.step.Step.TheVariants as step
use Rattle.far_frame.specs.declared.step.Reply.{Reply}
use Rattle.far_frame.specs.declared.step.Reply.TheVariants as reply
use Rattle.far_frame.specs.Runs.{is_refused, plain_rows, rows_after}
use Rattle.std.specs.Prelude.{cond}
use Rattle.far_frame.specs.TableRefusals.{TableState}
use Rattle.far_frame.specs.TableRuns.{IsTableStep, IsTableServed, IsTableRun}

module _ (old new : TableState) where
  abbrev Same : Type 0
  Same = new.table.places ≡ old.table.places

  all-same : new ≡ old → Same
  all-same same = λ i. (same i).table.places

  watched : (P : ℕ → Type 0) (f : ℕ → Table) (found : Option ℕ) → ((a : ℕ) → (f a).places ≡ old.table.places) → IsSomeAnd found (λ a. P a × (new ≡ record old { table = f a })) → Same
  watched P f None stays h = absurd h
  watched P f (Some a) stays h = (λ i. (h.1 i).table.places) ∙ stays a

  served-rows : (s : Step) (given : Reply) → IsTableServed old s given new → new.table.places ≡ rows_after s old.table.places
  served-rows (step.Edit e) given h = λ i. (h.1 i).table.places
  served-rows (step.Watch spec) given h = watched (λ a. given ≡ reply.Aggregate a) (λ a. after_register_at a spec old.table) (lowest_free old.table) (λ a. refl) h
  served-rows (step.Unwatch a) given h = λ i. (h.1 i).table.places
  served-rows (step.ScanGroup a g) given h = λ i. (h.1 i).table.places
  served-rows (step.Ask a) given h = all-same h.1
  served-rows (step.Lend c from to) given h = all-same h.1
  served-rows (step.Pin c g) given h = λ i. (h.1 i).table.places
  served-rows (step.Unpin c g) given h = λ i. (h.1 i).table.places
  served-rows (step.Commit n) given h = λ i. (h.5 i).table.places
  served-rows (step.Install n) given h = λ i. (h.4 i).table.places
  served-rows (step.Merge n) given h = λ i. (h.4 i).table.places
  served-rows (step.Carry n) given h = all-same h.1
  served-rows (step.Compact kind segment) given h = all-same h.1
  served-rows (step.Prefetch c) given h = all-same h
  served-rows (step.BeginEvac c g) given h = all-same h.1
  served-rows (step.BeginFetch c g) given h = all-same h.1
  served-rows (step.BeginOffload a g) given h = all-same h.1

  step-rows : (s : Step) (given : Reply) → IsTableStep old s given new → new.table.places ≡ cond (is_refused given) old.table.places (rows_after s old.table.places)
  step-rows s (reply.Refused why) h = all-same h.1
  step-rows s (reply.Place place) h = served-rows s (reply.Place place) h.1
  step-rows s reply.Done h = served-rows s reply.Done h.1
  step-rows s (reply.Aggregate a) h = served-rows s (reply.Aggregate a) h.1
  step-rows s (reply.Answer x) h = served-rows s (reply.Answer x) h.1
  step-rows s (reply.Ints pieces) h = served-rows s (reply.Ints pieces) h.1
  step-rows s (reply.Texts pieces) h = served-rows s (reply.Texts pieces) h.1
  step-rows s (reply.Job n) h = served-rows s (reply.Job n) h.1
  step-rows s (reply.Next found) h = served-rows s (reply.Next found) h.1

pub run-rows : (old : TableState) (steps : List Step) (replies : List Reply) (new : TableState) → IsTableRun old steps replies new → new.table.places ≡ plain_rows steps replies old.table.places
run-rows old [] [] new h = λ i. (h i).table.places
run-rows old [] (given ∷ replies) new h = absurd h
run-rows old (s ∷ steps) [] new h = absurd h
run-rows old (s ∷ steps) (given ∷ replies) new h = run-rows h.0 steps replies new h.2 ∙ ap (plain_rows steps replies) (step-rows old h.0 s given h.1)
