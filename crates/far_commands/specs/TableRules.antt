-- What a script does to its table, as its user sees it: to the rows and aggregates, and which chunks are away or pinned.
use Rattle.std.specs.Prelude.{◌≡◌, ◌⊎◌, ⊤, ℕ, List, [], ◌∷◌, codes}
use Rattle.std.specs.Option.{option_map_or}
use Rattle.far_types.specs.declared.refusal.Refusal.{Refusal}
use Rattle.far_types.specs.declared.refusal.Refusal.TheVariants.{FarFault}
use Rattle.far_types.specs.Bounds.{IsSchema, AreLimits}
use Rattle.far_types.specs.FirstOf.{first_of}
use Rattle.far_frame.specs.Jobs.{IsOneOf}
use Rattle.far_frame.specs.TableRefusals.{TableState, all_away}
use Rattle.far_frame.specs.TableRuns.{FaultsOnlyIf, IsTableStep}
use Rattle.far_frame.specs.TableViews.{new_table}
use Rattle.far_script.specs.Openings.{Opened}
use Rattle.far_script.specs.Printing.{refusal_text}
use Rattle.far_commands.specs.Listings.{dump_text}
use Rattle.far_commands.specs.Rules.{Rules}

-- a new table, whose columns and limits are valid
abbrev pub IsNewTable : Opened → TableState → Type 0
IsNewTable opened new = IsSchema opened.0 × AreLimits opened.1
    × (new ≡ new_table opened.0 opened.1)

-- the reply to `dump`: the refusal that names the first chunk that is away, of the lowest row group and there of the lowest
-- column, or else the live rows
abbrev pub table_listing : TableState → List ℕ
table_listing s = option_map_or refusal_text (first_of (all_away s)) (dump_text s.table)

-- the reply to a renewal, which does not change the table: it is done, or a store failed that may fail, or the new one is
-- full, or memory ran out
abbrev pub IsTableMove : Type 0 → TableState → List ℕ → TableState → Type 0
IsTableMove may_fail old text new = (new ≡ old) × ((text ≡ codes "renewed\n")
    ⊎ ((why : Refusal) × IsOneOf (21 ∷ 22 ∷ 1 ∷ []) why × (why ≡ FarFault → may_fail)
    × (text ≡ refusal_text why)))

-- these rules of a script say nothing of objects, space and jobs, and of its stores only whether they may fail
abbrev pub table_rules : Type 0 → Rules TableState
table_rules may_fail = record {
  table_in = λ s. s.table;
  IsOpened = IsNewTable;
  Steps = λ old s given new. IsTableStep old s given new × FaultsOnlyIf may_fail s given;
  Lists = λ s text. text ≡ table_listing s;
  Moves = λ capacity old text new. IsTableMove may_fail old text new;
  Stays = λ new. ⊤;
  MayFail = may_fail;
}
