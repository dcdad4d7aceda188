-- Histories of edits, and the table after one.
use Rattle.std.specs.Prelude.{◌≡◌, ℕ, ◌<◌, nat_eq, ℤ, cond, List, [], ◌∷◌, map, length, None}
use Rattle.far_types.specs.declared.cell.Kind.{Kind}
use Rattle.far_types.specs.declared.limits.Limits.{Limits}
use Rattle.far_types.specs.declared.spec.Spec.{Spec}
use Rattle.far_types.specs.declared.spec.Fold.TheVariants as fold
use Rattle.far_types.specs.Answers.{count_sum}
use Rattle.far_types.specs.Edits.{after_edit, edit_refusal}
use Rattle.far_types.specs.Pairs.{Pair, pairs_of}
use Rattle.far_types.specs.Table.{Place, Table, empty_table, rows_of}
use Rattle.far_sessions.specs.declared.reading.Reading.{Reading}
use Rattle.far_sessions.specs.declared.view.Entry.{Entry}

-- the plan of a shared table: its schema and limits, the aggregate that is its gauge, and how many sessions it has
pub record Planned : Type 0 where
  pub schema : List Kind
  pub limits : Limits
  pub gauge : Spec
  pub sessions : ℕ

-- this table after the edits of a history
abbrev pub replay_on : Table → List Entry → Table
replay_on table [] = table
replay_on table (entry ∷ log) = replay_on (after_edit entry.edit table) log

-- the table of the plan after a history, which begins with the empty table
abbrev pub replay : Planned → List Entry → Table
replay p log = replay_on (empty_table p.schema p.limits) log

-- the plain table accepts each edit of the history in turn
abbrev pub IsLegalOn : Table → List Entry → Type 0
IsLegalOn table [] = Unit {0}
IsLegalOn table (entry ∷ log) = (edit_refusal table entry.edit ≡ None)
    × IsLegalOn (after_edit entry.edit table) log

-- the empty table of the plan accepts each edit of the history in turn
abbrev pub IsLegal : Planned → List Entry → Type 0
IsLegal p log = IsLegalOn (empty_table p.schema p.limits) log

-- the count of an aggregate's rows, and the sum of their values
abbrev pub folded : Spec → List Place → ℕ × ℤ
folded spec places = count_sum (map (λ (pair : Pair). pair.1) (pairs_of spec (rows_of places)))

-- the reading after a history: its number of edits, and the count and the sum of the gauge over the rows of its table
abbrev pub gauge_of : Planned → List Entry → Reading
gauge_of p log = record {
  edits = length log;
  count = (folded p.gauge (replay p log).places).0;
  sum = (folded p.gauge (replay p log).places).1;
}

-- the entries of one session, in order
abbrev pub by_session : ℕ → List Entry → List Entry
by_session s [] = []
by_session s (entry ∷ log) = cond (nat_eq entry.by s) (entry ∷ by_session s log) (by_session s log)

-- the session of each entry has a number below n
abbrev pub AllBelow : ℕ → List Entry → Type 0
AllBelow n [] = Unit {0}
AllBelow n (entry ∷ log) = (entry.by < n) × AllBelow n log

-- an arbitrary plan, where none is named
abbrev pub no_plan : Planned
no_plan = record {
  schema = [];
  limits = record {
    group = 0;
    places = 0;
    edits = 0;
    int_segments = 0;
    int_size = 0;
    text_segments = 0;
    text_size = 0;
  };
  gauge = record { fold = fold.Totals; value = 0; key = None; filter = [] };
  sessions = 0;
}
