-- The effect of a step on the table and its objects, and its reply.
use Rattle.std.specs.Prelude.{◌≡◌, ℕ, ◌<◌, ◌≤◌, ◌⊎◌, true, false, List, length, None, Result}
use Rattle.std.specs.declared.result.Result.TheVariants.{Ok, Err}
use Rattle.far_types.specs.declared.answer.Answer.{Answer}
use Rattle.far_types.specs.declared.cell.Kind.{Kind}
use Rattle.far_types.specs.declared.edit.Edit.{Edit}
use Rattle.far_types.specs.declared.edit.Edit.TheVariants as edit
use Rattle.far_types.specs.declared.refusal.Refusal.{Refusal}
use Rattle.far_types.specs.declared.refusal.Refusal.TheVariants as refusal
use Rattle.far_types.specs.MayRefuse.{MayRefuse}
use Rattle.far_types.specs.Table.{Table}
use Rattle.far_aggregates.specs.Aggregates.{Answers, ask_refusal}
use Rattle.far_rows.specs.Rows.{Rows}
use Rattle.far_rows.specs.Moving.{pin_refusal, unpin_refusal}
use Rattle.far_frame.specs.State.{State, live, Alters}
use Rattle.far_frame.specs.Lending.{IsLent, lend_refusal, next_groups, prefetch_refusal}
use Rattle.far_table.specs.Edits.{edit_due}
use Rattle.far_table.specs.Live.{IsEdited}
use Rattle.far_table.specs.Moving.{IsMoved, IsPinned, IsUnpinned, IsCompactedOf, segments_of, HasNoOther}
use Rattle.far_table.specs.Watching.{aggregate_at, watch_refusal, unwatch_refusal, scan_refusal, IsWatched, IsUnwatched, IsScanned}
use Rattle.far_frame.specs.declared.step.Step.{Step}
use Rattle.far_frame.specs.declared.step.Step.TheVariants as step
use Rattle.far_frame.specs.declared.step.Reply.{Reply}
use Rattle.far_frame.specs.declared.step.Reply.TheVariants as reply

-- the reply refuses the step for a reason, or serves it
abbrev pub Replies : (Reply → Type 0) → (Refusal → Type 0) → Reply → Type 0
Replies serves refuses (reply.Refused given) = refuses given
Replies serves refuses given = serves given

-- the reply of a call that returns nothing when it succeeds
abbrev pub done_or : Result Unit Refusal → Reply
done_or (Ok done) = reply.Done
done_or (Err given) = reply.Refused given

-- the reply lists these row groups to fetch next
abbrev pub Proposes : List ℕ → Reply → Type 0
Proposes groups (reply.Next found) = found.items ≡ groups
Proposes groups _ = ⊥

-- the reply to an accepted edit: for an insert, the place of the new row
abbrev pub edit_reply : Table → Edit → Reply
edit_reply table (edit.Insert row) = reply.Place (length table.places)
edit_reply table (edit.Set place column cell) = reply.Done
edit_reply table (edit.Remove place) = reply.Done

module _ {K : Type 0} where
  -- why compacting a segment is refused: there is no such segment, every other segment has a part, or memory ran out
  abbrev pub CompactRefusal : Kind → ℕ → Rows K → Refusal → Type 0
  CompactRefusal kind segment r given =
      ((given ≡ refusal.OutOfRange) × (segments_of kind r ≤ segment))
      ⊎ (((given ≡ refusal.RegionFull) × (segment < segments_of kind r) × HasNoOther kind segment r)
      ⊎ ((given ≡ refusal.NoMemory)
      × (segment < segments_of kind r)
      × ¬ (HasNoOther kind segment r)))

  -- why a step on the table is refused; the steps of jobs are not among these
  abbrev pub WhyRefused : State K → Step → Refusal → Type 0
  WhyRefused s (step.Edit e) given = MayRefuse (edit_due (live s) e) true given
  WhyRefused s (step.Watch spec) given = MayRefuse (watch_refusal s.table spec) true given
  WhyRefused s (step.Unwatch a) given = MayRefuse (unwatch_refusal (aggregate_at s.table a)) false
      given
  WhyRefused s (step.ScanGroup a g) given = MayRefuse
      (scan_refusal (live s) (aggregate_at s.table a) g) true given
  WhyRefused s (step.Ask a) given = MayRefuse (ask_refusal (aggregate_at s.table a)) true given
  WhyRefused s (step.Lend column from to) given = MayRefuse (lend_refusal s.rows column from to)
      true given
  WhyRefused s (step.Pin column group) given = MayRefuse (pin_refusal s.rows column group) false
      given
  WhyRefused s (step.Unpin column group) given = MayRefuse (unpin_refusal s.rows column group) false
      given
  WhyRefused s (step.Compact kind segment) given = CompactRefusal kind segment s.rows given
  WhyRefused s (step.Prefetch column) given = MayRefuse (prefetch_refusal s.table column) true given
  WhyRefused s (step.BeginEvac column group) given = ⊥
  WhyRefused s (step.BeginFetch column group) given = ⊥
  WhyRefused s (step.BeginOffload a g) given = ⊥
  WhyRefused s (step.Carry n) given = ⊥
  WhyRefused s (step.Commit n) given = ⊥
  WhyRefused s (step.Install n) given = ⊥
  WhyRefused s (step.Merge n) given = ⊥

  -- a refused step changes nothing
  abbrev pub Refuses : State K → Step → Refusal → State K → Type 0
  Refuses old s given new = (new ≡ old) × WhyRefused old s given

  module _ (content : K → List ℕ) where
    -- an accepted step: no refusal is due, and its reply and its effect are those of the plain table. An answer is computed from scratch
    -- over the current rows
    abbrev pub Accepts : State K → Step → Reply → State K → Type 0
    Accepts old (step.Edit e) given new = (given ≡ edit_reply old.table e)
        × Alters (λ before after. IsEdited content before e after) old new
    Accepts old (step.Watch spec) given new = (a : ℕ) × (given ≡ reply.Aggregate a)
        × Alters (λ before after. IsWatched before after spec a) old new
    Accepts old (step.Unwatch a) given new = (given ≡ reply.Done)
        × Alters (λ before after. IsUnwatched before after a) old new
    Accepts old (step.ScanGroup a g) given new = (given ≡ reply.Done)
        × Alters (λ before after. IsScanned before after a g) old new
    Accepts old (step.Ask a) given new = (answer : Answer) × (given ≡ reply.Answer answer)
        × Answers old.table.places (aggregate_at old.table a) answer
        × (new ≡ old)
    Accepts old (step.Lend column from to) given new = IsLent column from to old given new
    Accepts old (step.Pin column group) given new = (given ≡ reply.Done)
        × (pin_refusal old.rows column group ≡ None)
        × Alters (IsMoved (IsPinned column group)) old new
    Accepts old (step.Unpin column group) given new = (given ≡ reply.Done)
        × (unpin_refusal old.rows column group ≡ None)
        × Alters (IsMoved (IsUnpinned column group)) old new
    Accepts old (step.Compact kind segment) given new = (given ≡ reply.Done)
        × Alters (IsMoved (IsCompactedOf kind segment)) old new
    Accepts old (step.Prefetch column) given new = (prefetch_refusal old.table column ≡ None)
        × Proposes (next_groups old.table old.accesses column) given
        × (new ≡ old)
    Accepts old (step.BeginEvac column group) given new = ⊥
    Accepts old (step.BeginFetch column group) given new = ⊥
    Accepts old (step.BeginOffload a g) given new = ⊥
    Accepts old (step.Carry n) given new = ⊥
    Accepts old (step.Commit n) given new = ⊥
    Accepts old (step.Install n) given new = ⊥
    Accepts old (step.Merge n) given new = ⊥

    -- the effect on the table and its objects of a step with this reply
    abbrev pub Changes : State K → Step → Reply → State K → Type 0
    Changes old s given new = Replies (λ served. Accepts old s served new)
        (λ why. Refuses old s why new) given
