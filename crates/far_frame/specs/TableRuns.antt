-- The effect of steps on a table, as its user sees it. Left out here, and defined in `Steps`: where
-- an object is stored, when space runs out, and which job moves which chunk.
use Rattle.std.specs.Prelude.{◌≡◌, ◌≢◌, ⊤, ℕ, ◌+◌, ◌-◌, ◌==◌, ◌&&◌, true, false, cond, List, [], ◌∷◌, map, None, IsSomeAnd, slice_range}
use Rattle.std.specs.List.{flat_map}
use Rattle.far_types.specs.declared.refusal.Refusal.TheVariants.{FarFault}
use Rattle.far_types.specs.Edits.{after_edit}
use Rattle.far_types.specs.Table.{Table, answer_now, is_pending, part}
use Rattle.far_table.specs.Watching.{aggregate_at, lowest_free, after_register_at, after_scan_at, with_aggregate}
use Rattle.far_frame.specs.declared.step.Step.{Step}
use Rattle.far_frame.specs.declared.step.Step.TheVariants as step
use Rattle.far_frame.specs.declared.step.Reply.{Reply}
use Rattle.far_frame.specs.declared.step.Reply.TheVariants as reply
use Rattle.far_frame.specs.Effects.{Replies, edit_reply}
use Rattle.far_frame.specs.Lending.{pieces_in}
use Rattle.far_frame.specs.TableRefusals.{TableState, IsReason, due}

-- the pieces in the reply, joined, are this part of the column, with the flags of its places. A
-- reply without pieces is the empty part
abbrev pub IsPartOf : Table → ℕ → ℕ → ℕ → Reply → Type 0
IsPartOf table c from to given =
    let pieces = pieces_in given in
    (flat_map (λ piece. piece.cells) pieces ≡ part c from to table.places)
    × (flat_map (λ piece. piece.flags) pieces
    ≡ slice_range (map (λ place. place.alive) table.places) from to)

-- the same function, except that one row group of one column has this value
abbrev pub changed : {A : Type 0} → ℕ → ℕ → A → (ℕ → ℕ → A) → ℕ → ℕ → A
changed c g x old column group = cond (column == c && group == g) x (old column group)

-- an accepted step: its reply, and its effect on the table. A commit evicts some local chunk without
-- a pin, an install brings back some chunk that is away, a merge scans some pending row group; which,
-- `IsRun` says. The last line is of the three steps that begin a job
abbrev pub IsTableServed : TableState → Step → Reply → TableState → Type 0
IsTableServed old (step.Edit e) given new = (given ≡ edit_reply old.table e)
    × (new ≡ record old { table = after_edit e old.table })
IsTableServed old (step.Watch spec) given new = IsSomeAnd (lowest_free old.table) (λ a.
    (given ≡ reply.Aggregate a) × (new ≡ record old { table = after_register_at a spec old.table }))
IsTableServed old (step.Unwatch a) given new = (given ≡ reply.Done)
    × (new ≡ record old { table = with_aggregate a None old.table })
IsTableServed old (step.ScanGroup a g) given new = (given ≡ reply.Done)
    × (new ≡ record old { table = after_scan_at a g old.table })
IsTableServed old (step.Ask a) given new = IsSomeAnd (aggregate_at old.table a) (λ aggregate.
    given ≡ reply.Answer (answer_now aggregate.spec old.table)) × (new ≡ old)
IsTableServed old (step.Lend c from to) given new = IsPartOf old.table c from to given × (new ≡ old)
IsTableServed old (step.Pin c g) given new = (given ≡ reply.Done)
    × (new ≡ record old { pins = changed c g (old.pins c g + 1) old.pins })
IsTableServed old (step.Unpin c g) given new = (given ≡ reply.Done)
    × (new ≡ record old { pins = changed c g (old.pins c g - 1) old.pins })
IsTableServed old (step.Commit n) given new = (given ≡ reply.Done) × (c : ℕ) × (g : ℕ)
    × (due old (step.BeginEvac c g) ≡ None) × (old.pins c g ≡ 0)
    × (new ≡ record old { is_away = changed c g true old.is_away })
IsTableServed old (step.Install n) given new = (given ≡ reply.Done) × (c : ℕ) × (g : ℕ)
    × (due old (step.BeginFetch c g) ≡ None)
    × (new ≡ record old { is_away = changed c g false old.is_away })
IsTableServed old (step.Merge n) given new = (given ≡ reply.Done) × (a : ℕ) × (g : ℕ)
    × IsSomeAnd (aggregate_at old.table a) (λ aggregate. is_pending aggregate.pending g ≡ true)
    × (new ≡ record old { table = after_scan_at a g old.table })
IsTableServed old (step.Carry n) given new = (given ≡ reply.Done) × (new ≡ old)
IsTableServed old (step.Compact kind segment) given new = (given ≡ reply.Done) × (new ≡ old)
IsTableServed old (step.Prefetch c) given new = new ≡ old
IsTableServed old _ given new = ((n : ℕ) × (given ≡ reply.Job n)) × (new ≡ old)

-- a carry is refused with `FarFault` only if the far store may fail
abbrev pub FaultsOnlyIf : Type 0 → Step → Reply → Type 0
FaultsOnlyIf may_fail (step.Carry n) (reply.Refused why) = why ≡ FarFault → may_fail
FaultsOnlyIf may_fail s given = ⊤

-- the table `old` becomes `new` by a step with this reply: it is refused for a reason and nothing
-- changes, or no refusal is due and it is accepted
abbrev pub IsTableStep : TableState → Step → Reply → TableState → Type 0
IsTableStep old s given new = Replies
    (λ served. (due old s ≡ None) × IsTableServed old s served new)
    (λ why. IsReason old s why × (new ≡ old)) given

-- the table `old` becomes `new` by these steps with these replies, one for each
abbrev pub IsTableRun : TableState → List Step → List Reply → TableState → Type 0
IsTableRun old [] [] new = new ≡ old
IsTableRun old [] (given ∷ replies) new = ⊥
IsTableRun old (s ∷ steps) [] new = ⊥
IsTableRun old (s ∷ steps) (given ∷ replies) new =
    (mid : TableState) × IsTableStep old s given mid × IsTableRun mid steps replies new

-- a chunk with a pin is not away
abbrev pub ArePinnedLocal : TableState → Type 0
ArePinnedLocal s = (c g : ℕ) → s.pins c g ≢ 0 → s.is_away c g ≡ false
