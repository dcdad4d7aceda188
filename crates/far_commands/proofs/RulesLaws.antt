-- What is answered by some rules is answered by others.
use Rattle.std.proofs.Common.{◌≡◌, ◌+◌, ℕ, zero, suc, List, [], ◌∷◌, inl, inr, Option, None, Some, refl, sym, ap, subst, ◌∙◌}
use Rattle.std.specs.Option.{option_and_then, option_map_or}
use Rattle.std.specs.Prelude.{option_map, slice_get, false}
use Rattle.far_store.specs.declared.store.FarTickets.{Ghosts as Tickets}
use Rattle.far_types.specs.declared.cell.Kind.{Kind}
use Rattle.far_types.specs.declared.cell.Kind.TheVariants as kind
use Rattle.far_types.specs.declared.limits.Limits.{Limits}
use Rattle.far_types.specs.declared.refusal.Refusal.{Refusal}
use Rattle.far_types.specs.Table.{Table, empty_table}
use Rattle.far_rows.specs.declared.column_index.ColumnIndex.{ColumnIndex}
use Rattle.far_rows.specs.declared.column_index.ColumnIndex.TheVariants as column_index
use Rattle.far_rows.specs.Coldest.{pins_at}
use Rattle.far_rows.specs.Moving.{object_at, object_in}
use Rattle.far_rows.specs.Opening.{empty_rows, numbers_from, texts_from}
use Rattle.far_rows.specs.Rows.{Rows, object_of}
use Rattle.far_frame.specs.declared.step.Reply.{Reply}
use Rattle.far_frame.specs.declared.step.Reply.TheVariants as reply
use Rattle.far_frame.specs.declared.step.Step.{Step}
use Rattle.far_frame.specs.State.{empty_state}
use Rattle.far_frame.specs.TableViews.{is_gone, table_of}
use Rattle.far_frame.specs.Worlds.{World}
use Rattle.far_script.specs.Openings.{Opened}
use Rattle.far_commands.specs.declared.command.Command.{Command}
use Rattle.far_commands.specs.declared.command.Command.TheVariants as command
use Rattle.far_commands.specs.Commands.{command_of}
use Rattle.far_commands.specs.Progress.{At}
use Rattle.far_commands.specs.Recounts.{Recounts}
use Rattle.far_commands.specs.Renewals.{Renews}
use Rattle.far_commands.specs.Replies.{AfterReply, AnswersLine, Loads, Serves, ServesLine, insert_of_record, records_of}
use Rattle.far_commands.specs.Rules.{Rules}
use Rattle.far_commands.specs.TableRules.{IsNewTable, IsTableMove, table_rules}
use Rattle.far_commands.specs.Tables.{IsEmpty}
use Rattle.far_commands.specs.WorldRules.{at_seen, both_rules, table_seen, world_rules}

after-as : (given : Reply) (ends ends_too : Refusal → Type 0) (goes goes_too : Type 0) → ((why : Refusal) → ends why → ends_too why) → (goes → goes_too) → AfterReply given ends goes → AfterReply given ends_too goes_too
after-as (reply.Refused why) ends ends_too goes goes_too f g h = f why h
after-as (reply.Place place) ends ends_too goes goes_too f g h = g h
after-as reply.Done ends ends_too goes goes_too f g h = g h
after-as (reply.Aggregate a) ends ends_too goes goes_too f g h = g h
after-as (reply.Answer x) ends ends_too goes goes_too f g h = g h
after-as (reply.Ints pieces) ends ends_too goes goes_too f g h = g h
after-as (reply.Texts pieces) ends ends_too goes goes_too f g h = g h
after-as (reply.Job n) ends ends_too goes goes_too f g h = g h
after-as (reply.Next found) ends ends_too goes goes_too f g h = g h

-- what one set of rules allows, another allows of what is seen of the states
module _ {V W : Type 0} (a : Rules V) (b : Rules W) (view : V → W) (same : (v : V) → b.table_in (view v) ≡ a.table_in v)
    (steps : (old : V) (s : Step) (given : Reply) (new : V) → a.Steps old s given new → b.Steps (view old) s given (view new))
    (lists : (at : V) (text : List ℕ) → a.Lists at text → b.Lists (view at) text)
    (moves : (capacity : ℕ) (old : V) (text : List ℕ) (new : V) → a.Moves capacity old text new → b.Moves capacity (view old) text (view new))
    (stays : (new : V) → a.Stays new → b.Stays (view new))
    (fails : a.MayFail → b.MayFail) where
  abbrev seen : At V → At W
  seen at = record { world = view at.world; number = at.number }

  loads-as : (count : ℕ) (old new : V) (rows : List (List (List ℕ))) (text : List ℕ) → Loads a count old rows text new → Loads b count (view old) rows text (view new)
  loads-as count old new [] text h = (ap view h.0, h.1)
  loads-as count old new (fields ∷ more) text h = (
    h.0,
    view h.1,
    subst (λ (t : Table). b.Steps (view old) (insert_of_record t.schema fields) h.0 (view h.1)) (sym (same old)) (steps old (insert_of_record (a.table_in old).schema fields) h.0 h.1 h.2),
    after-as h.0 _ _ _ _ (λ why e. (ap view e.0, e.1)) (loads-as (count + 1) h.1 new more text) h.3,
  )

  recounts-as : (table : Table) (x : ℕ) (text : List ℕ) → Recounts a.MayFail table x text → Recounts b.MayFail table x text
  recounts-as table x text (inl found) = inl found
  recounts-as table x text (inr why) = inr (why.0, (why.1.0, why.1.1, why.1.2, (λ some. fails (why.1.3 some))), why.2)

  serves-as : (old new : V) (asked : Command) (rows text : List ℕ) → Serves a old asked rows text new → Serves b (view old) asked rows text (view new)
  serves-as old new (command.Step s) rows text h = (h.0, (h.1.0, steps old s h.1.0 new h.1.1, h.1.2))
  serves-as old new (command.Load count) rows text h = (h.0, h.1, loads-as 0 old new (records_of rows) text h.2)
  serves-as old new command.Dump rows text h = (h.0, lists old text h.1, ap view h.2)
  serves-as old new (command.Renew capacity) rows text h = (h.0, moves capacity old text new h.1)
  serves-as old new (command.Recount x) rows text h = (h.0, recounts-as (b.table_in (view old)) x text (subst (λ (t : Table). Recounts a.MayFail t x text) (sym (same old)) h.1), ap view h.2)

  line-as : (number : ℕ) (old new : V) (asked : Option Command) (rows text : List ℕ) → ServesLine a number old asked rows text new → ServesLine b number (view old) asked rows text (view new)
  line-as number old new None rows text h = (h.0, h.1, ap view h.2)
  line-as number old new (Some asked) rows text h = serves-as old new asked rows text h

  answers-as : (old new : At V) (line rows text : List ℕ) → AnswersLine a old line rows text new → AnswersLine b (seen old) line rows text (seen new)
  answers-as old new [] rows text h = (h.0, h.1, ap seen h.2)
  answers-as old new (c ∷ cs) rows text h = (
    h.0,
    h.1,
    subst (λ (t : Table). ServesLine b new.number (view old.world) (command_of t.schema (c ∷ cs)) rows text (view new.world)) (sym (same old.world)) (line-as new.number old.world new.world (command_of (a.table_in old.world).schema (c ∷ cs)) rows text h.2),
    stays new.world h.3,
  )

module _ {S K : Type 0} (tickets : Tickets S K) where
  -- an answer by both rules is one by the rules of a world
  pub world-line : (old new : At (World K)) (line rows text : List ℕ) → AnswersLine (both_rules tickets) old line rows text new → AnswersLine (world_rules tickets) old line rows text new
  world-line = answers-as (both_rules tickets) (world_rules tickets) (λ world. world) (λ world. refl) (λ old s given new h. h.0) (λ at text h. h.0) (λ capacity old text new h. h.0) (λ new h. h.0) (λ fails. fails)

  -- and one by the rules of a table
  pub table-line : (old new : At (World K)) (line rows text : List ℕ) → AnswersLine (both_rules tickets) old line rows text new → AnswersLine (table_rules tickets.may_fail) (at_seen old) line rows text (at_seen new)
  table-line = answers-as (both_rules tickets) (table_rules tickets.may_fail) table_seen (λ world. refl) (λ old s given new h. h.1) (λ at text h. h.1) (λ capacity old text new h. h.1) (λ new h. h.1) (λ fails. fails)

  -- a renewal that does not change the table as its user sees it
  pub move-seen : (capacity : ℕ) (old new : World K) (text : List ℕ) → table_seen new ≡ table_seen old → Renews tickets capacity old text new → IsTableMove tickets.may_fail (table_seen old) text (table_seen new)
  move-seen capacity old new text same (inl renewed) = (same, inl renewed.1)
  move-seen capacity old new text same (inr refused) = (same, inr (refused.0, refused.1.0, refused.1.1, refused.2))

-- the columns of a new table have no objects
no-number : (size n : ℕ) (kinds : List Kind) (i g : ℕ) → option_and_then (λ v. slice_get v.objects g) (slice_get (numbers_from size n kinds) i) ≡ None
no-number size n [] i g = refl
no-number size n (kind.Int ∷ kinds) zero g = refl
no-number size n (kind.Int ∷ kinds) (suc i) g = no-number size (n + 1) kinds i g
no-number size n (kind.Text ∷ kinds) i g = no-number size (n + 1) kinds i g

no-text : (size limit n : ℕ) (kinds : List Kind) (i g : ℕ) → option_and_then (λ v. slice_get v.objects g) (slice_get (texts_from size limit n kinds) i) ≡ None
no-text size limit n [] i g = refl
no-text size limit n (kind.Int ∷ kinds) i g = no-text size limit (n + 1) kinds i g
no-text size limit n (kind.Text ∷ kinds) zero g = refl
no-text size limit n (kind.Text ∷ kinds) (suc i) g = no-text size limit (n + 1) kinds i g

module _ (K : Type 0) (schema : List Kind) (limits : Limits) where
  abbrev rows : Rows K
  rows = empty_rows schema limits 0

  nothing-in : (found : Option ColumnIndex) (g : ℕ) → option_and_then (λ s. option_map (object_in s) (object_of rows s g)) found ≡ None
  nothing-in None g = refl
  nothing-in (Some (column_index.Number i)) g = ap (option_map (object_in (column_index.Number i))) (no-number limits.group 0 schema i g)
  nothing-in (Some (column_index.Text i)) g = ap (option_map (object_in (column_index.Text i))) (no-text limits.group limits.text_size 0 schema i g)

  nothing-at : (c g : ℕ) → object_at rows c g ≡ None
  nothing-at c g = nothing-in (slice_get rows.column_indexes c) g

  new-seen : table_of (empty_state {K = K} schema limits 0) ≡ record { table = empty_table schema limits; is_away = λ c g. false; pins = λ c g. 0 }
  new-seen = λ i. record {
    table = empty_table schema limits;
    is_away = λ c g. option_map_or (is_gone rows) (nothing-at c g i) false;
    pins = λ c g. option_map_or (pins_at rows) (nothing-at c g i) 0;
  }

-- a new world has a new table
pub opened-seen : (K : Type 0) (opened : Opened) (world : World K) → IsEmpty opened world → IsNewTable opened (table_seen world)
opened-seen K opened world new = (new.schema, new.limits, ap table_of new.state ∙ new-seen K opened.0 opened.1)
