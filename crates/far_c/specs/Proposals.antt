-- The row groups to fetch next, as C receives them.
use Rattle.std.specs.Prelude.{◌≡◌, ℕ, List, [], length, take}
use Rattle.far_frame.specs.declared.step.Reply.{Reply}
use Rattle.far_frame.specs.declared.step.Reply.TheVariants as reply
use Rattle.far_frame.specs.declared.step.Step.TheVariants as step
use Rattle.far_c.specs.Outcomes.{IsAccepted, IsServed}
use Rattle.far_c.specs.TableState.{TableState}

-- the row groups in a reply
abbrev pub groups_in : Reply → List ℕ
groups_in (reply.Next found) = found.items
groups_in _ = []

-- the step that proposes is served, and the first `count` of these are the row groups in its reply
abbrev pub AreProposed : ℕ → List ℕ → ℕ → TableState → TableState → Type 0
AreProposed column groups count old new = (given : Reply) × IsAccepted given
    × IsServed (step.Prefetch column) given old new
    × (count ≡ length (groups_in given)) × (take count groups ≡ groups_in given)
