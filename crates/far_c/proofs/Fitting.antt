-- The reply of a step has the step's own form, and a step that carries no job counts no fault.
use Rattle.std.proofs.Common.{◌≡◌, ℕ, List, Option, refl, sym, subst}
use Rattle.std.specs.Prelude.{⊤}
use Rattle.far_types.specs.declared.edit.Edit.TheVariants as edit
use Rattle.far_types.specs.declared.refusal.Refusal.{Refusal}
use Rattle.far_host.specs.HostTickets.{TicketState}
use Rattle.far_frame.specs.declared.step.Step.{Step}
use Rattle.far_frame.specs.declared.step.Step.TheVariants as step
use Rattle.far_frame.specs.declared.step.Reply.{Reply}
use Rattle.far_frame.specs.declared.step.Reply.TheVariants as reply
use Rattle.far_rows.specs.Jobs.{evac_refusal, fetch_refusal}
use Rattle.far_table.specs.Offloading.{offload_refusal}
use Rattle.far_table.specs.Watching.{aggregate_at}
use Rattle.far_frame.specs.Effects.{Accepts, Refuses, Replies, Proposes}
use Rattle.far_frame.specs.Jobs.{JobRecord, WorkOf, IsEvacJob, IsFetchJob, IsOffloadJob, Commits, CommitRefusal, Installs, InstallRefusal, Merges, MergeRefusal}
use Rattle.far_frame.specs.State.{State, live}
use Rattle.far_frame.specs.Steps.{IsStep, OnTable}
use Rattle.far_frame.specs.Worlds.{World, IsBegun, IsNotBegun, IsCarry, IsNoCarry, IsEnded, IsNotEnded}
use Rattle.far_c.specs.Contents.{content, number_of}
use Rattle.far_c.specs.Replies.{Fits, GivesDone, GivesJob, IsDone, IsPlace, IsAggregate, IsAnswer, IsJob, IsNext, IsQuiet}

-- a reply has a form if it has it whenever the step is served
formed : (serves form : Reply → Type 0) (refuses : Refusal → Type 0) → ((given : Reply) → serves given → form given) → (given : Reply) → Replies serves refuses given → Replies form (λ (why : Refusal). ⊤) given
formed s t r f (reply.Refused why) h = tt
formed s t r f (reply.Place place) h = f (reply.Place place) h
formed s t r f reply.Done h = f reply.Done h
formed s t r f (reply.Aggregate a) h = f (reply.Aggregate a) h
formed s t r f (reply.Answer answer) h = f (reply.Answer answer) h
formed s t r f (reply.Ints pieces) h = f (reply.Ints pieces) h
formed s t r f (reply.Texts pieces) h = f (reply.Texts pieces) h
formed s t r f (reply.Job n) h = f (reply.Job n) h
formed s t r f (reply.Next found) h = f (reply.Next found) h

proposed : (groups : List ℕ) (given : Reply) → Proposes groups given → IsNext given
proposed groups (reply.Next found) h = tt
proposed groups (reply.Refused why) h = absurd h
proposed groups (reply.Place place) h = absurd h
proposed groups reply.Done h = absurd h
proposed groups (reply.Aggregate a) h = absurd h
proposed groups (reply.Answer answer) h = absurd h
proposed groups (reply.Ints pieces) h = absurd h
proposed groups (reply.Texts pieces) h = absurd h
proposed groups (reply.Job n) h = absurd h

-- a fact that holds whether the step is served or refused
either : (serves : Reply → Type 0) (refuses : Refusal → Type 0) (P : Type 0) → ((given : Reply) → serves given → P) → ((why : Refusal) → refuses why → P) → (given : Reply) → Replies serves refuses given → P
either s r p f g (reply.Refused why) h = g why h
either s r p f g (reply.Place place) h = f (reply.Place place) h
either s r p f g reply.Done h = f reply.Done h
either s r p f g (reply.Aggregate a) h = f (reply.Aggregate a) h
either s r p f g (reply.Answer answer) h = f (reply.Answer answer) h
either s r p f g (reply.Ints pieces) h = f (reply.Ints pieces) h
either s r p f g (reply.Texts pieces) h = f (reply.Texts pieces) h
either s r p f g (reply.Job n) h = f (reply.Job n) h
either s r p f g (reply.Next found) h = f (reply.Next found) h

done_form : (given : Reply) → given ≡ reply.Done → IsDone given
done_form given is = subst IsDone (sym is) tt

job_form : (n : ℕ) (given : Reply) → given ≡ reply.Job n → IsJob given
job_form n given is = subst IsJob (sym is) tt

module _ (old new : World TicketState) where
  abbrev Same : Type 0
  Same = new.faults ≡ old.faults

  of_world : {w : World TicketState} → new ≡ w → w.faults ≡ old.faults → Same
  of_world is same = subst (λ (v : World TicketState). v.faults ≡ old.faults) (sym is) same

  -- a step on the table
  module _ (s : Step) where
    on_table : (form : Reply → Type 0) → ((given : Reply) → Accepts content old.state s given new.state → form given) → (given : Reply) → OnTable content number_of old s given new → Replies form (λ (why : Refusal). ⊤) given
    on_table form f given h = formed (λ g. Accepts content old.state s g new.state) form (λ w. Refuses old.state s w new.state) f given h.0

    done_table : ((given : Reply) → Accepts content old.state s given new.state → given ≡ reply.Done) → (given : Reply) → OnTable content number_of old s given new → GivesDone given
    done_table f = on_table IsDone (λ g a. done_form g (f g a))

    still : (given : Reply) → OnTable content number_of old s given new → Same
    still given h = of_world h.1 refl

  -- a step that begins a job
  module _ (begins : JobRecord TicketState → Type 0) (due : Option Refusal) where
    begun_form : (given : Reply) → Replies (λ g. IsBegun begins old g new) (λ w. IsNotBegun due old w new) given → GivesJob given
    begun_form = formed (λ g. IsBegun begins old g new) IsJob (λ w. IsNotBegun due old w new) (λ g (a : IsBegun begins old g new). job_form old.begun g a.says)

    begun_still : (given : Reply) → Replies (λ g. IsBegun begins old g new) (λ w. IsNotBegun due old w new) given → Same
    begun_still = either (λ g. IsBegun begins old g new) (λ w. IsNotBegun due old w new) Same (λ g (a : IsBegun begins old g new). of_world a.world refl) (λ w (a : IsNotBegun due old w new). of_world a.world refl)

  -- a step that ends a job
  module _ (ends : WorkOf TicketState → State TicketState → Type 0) (why : WorkOf TicketState → Refusal → Type 0) (n : ℕ) where
    ended_form : (given : Reply) → Replies (λ g. IsEnded ends n old g new) (λ w. IsNotEnded why n old w new) given → GivesDone given
    ended_form = formed (λ g. IsEnded ends n old g new) IsDone (λ w. IsNotEnded why n old w new) (λ g (a : IsEnded ends n old g new). done_form g a.says)

    ended_still : (given : Reply) → Replies (λ g. IsEnded ends n old g new) (λ w. IsNotEnded why n old w new) given → Same
    ended_still = either (λ g. IsEnded ends n old g new) (λ w. IsNotEnded why n old w new) Same (λ g (a : IsEnded ends n old g new). of_world a.world refl) (λ w (a : IsNotEnded why n old w new). of_world a.world refl)

  pub carried_form : (n : ℕ) (given : Reply) → IsStep content number_of old (step.Carry n) given new → GivesDone given
  carried_form n = formed (λ g. IsCarry content n old g new) IsDone (λ w. IsNoCarry n old w new) (λ g (a : IsCarry content n old g new). done_form g a.says)

  pub fits : (s : Step) (given : Reply) → IsStep content number_of old s given new → Fits s given
  fits (step.Edit (edit.Insert row)) = on_table (step.Edit (edit.Insert row)) IsPlace (λ g a. subst IsPlace (sym a.0) tt)
  fits (step.Edit (edit.Set place column cell)) = done_table (step.Edit (edit.Set place column cell)) (λ g a. a.0)
  fits (step.Edit (edit.Remove place)) = done_table (step.Edit (edit.Remove place)) (λ g a. a.0)
  fits (step.Watch spec) = on_table (step.Watch spec) IsAggregate (λ g a. subst IsAggregate (sym a.1) tt)
  fits (step.Unwatch a) = done_table (step.Unwatch a) (λ g a. a.0)
  fits (step.ScanGroup a group) = done_table (step.ScanGroup a group) (λ g a. a.0)
  fits (step.Ask a) = on_table (step.Ask a) IsAnswer (λ g a. subst IsAnswer (sym a.1) tt)
  fits (step.Lend column from to) = λ given h. tt
  fits (step.Pin column group) = done_table (step.Pin column group) (λ g a. a.0)
  fits (step.Unpin column group) = done_table (step.Unpin column group) (λ g a. a.0)
  fits (step.Compact kind segment) = done_table (step.Compact kind segment) (λ g a. a.0)
  fits (step.Prefetch column) = on_table (step.Prefetch column) IsNext (λ g a. proposed _ g a.1)
  fits (step.BeginEvac column group) = begun_form (IsEvacJob old.state.rows column group) (evac_refusal old.state.rows column group)
  fits (step.BeginFetch column group) = begun_form (IsFetchJob old.state.rows column group) (fetch_refusal old.state.rows column group)
  fits (step.BeginOffload a group) = begun_form (IsOffloadJob old.state a group) (offload_refusal (live old.state) (aggregate_at old.state.table a) group)
  fits (step.Carry n) = carried_form n
  fits (step.Commit n) = ended_form (Commits number_of old.state) (CommitRefusal number_of old.state) n
  fits (step.Install n) = ended_form (Installs number_of old.state content) (InstallRefusal number_of old.state content) n
  fits (step.Merge n) = ended_form (Merges number_of old.state) (MergeRefusal number_of old.state) n

  pub quiet : (s : Step) (given : Reply) → IsQuiet s → IsStep content number_of old s given new → Same
  quiet (step.Edit e) given q = still (step.Edit e) given
  quiet (step.Watch spec) given q = still (step.Watch spec) given
  quiet (step.Unwatch a) given q = still (step.Unwatch a) given
  quiet (step.ScanGroup a group) given q = still (step.ScanGroup a group) given
  quiet (step.Ask a) given q = still (step.Ask a) given
  quiet (step.Lend column from to) given q = still (step.Lend column from to) given
  quiet (step.Pin column group) given q = still (step.Pin column group) given
  quiet (step.Unpin column group) given q = still (step.Unpin column group) given
  quiet (step.Compact kind segment) given q = still (step.Compact kind segment) given
  quiet (step.Prefetch column) given q = still (step.Prefetch column) given
  quiet (step.BeginEvac column group) given q = begun_still (IsEvacJob old.state.rows column group) (evac_refusal old.state.rows column group) given
  quiet (step.BeginFetch column group) given q = begun_still (IsFetchJob old.state.rows column group) (fetch_refusal old.state.rows column group) given
  quiet (step.BeginOffload a group) given q = begun_still (IsOffloadJob old.state a group) (offload_refusal (live old.state) (aggregate_at old.state.table a) group) given
  quiet (step.Carry n) given q = absurd q
  quiet (step.Commit n) given q = ended_still (Commits number_of old.state) (CommitRefusal number_of old.state) n given
  quiet (step.Install n) given q = ended_still (Installs number_of old.state content) (InstallRefusal number_of old.state content) n given
  quiet (step.Merge n) given q = ended_still (Merges number_of old.state) (MergeRefusal number_of old.state) n given
