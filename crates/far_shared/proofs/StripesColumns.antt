-- Calls that keep a table's columns: an index for each column, and the number of its objects.
use Rattle.std.proofs.Common.{◌≡◌, ℕ, suc, ◌+◌, Bool, true, false, if◌then◌else◌, List, [], ◌∷◌, length, refl, sym, ap, subst, ◌∙◌, Option, None, Some, IfSome, IsSomeAnd, Result, IfOk, IfErr}
use Rattle.std.specs.Prelude.{ℤ, option_map, slice_get}
use Rattle.std.specs.Option.{option_map_or}
use Rattle.std.specs.declared.result.Result.TheVariants.{Ok, Err}
use Rattle.far_types.specs.declared.cell.Kind.{Kind}
use Rattle.far_types.specs.declared.cell.Kind.TheVariants as kind
use Rattle.far_types.specs.declared.edit.Edit.{Edit}
use Rattle.far_types.specs.declared.limits.Limits.{Limits}
use Rattle.far_types.specs.declared.edit.Edit.TheVariants as edit
use Rattle.far_types.specs.declared.refusal.Refusal.{Refusal}
use Rattle.far_scopes.specs.Movement.{Movement}
use Rattle.far_scopes.specs.Effects.{after_create, after_write, after_write_all, after_replace_all, with_lens, after_arrive}
use Rattle.far_scopes.specs.Replacing.{replaced_all as replaced_all_in}
use Rattle.far_scopes.specs.declared.replacement.Replacement.{Replacement}
use Rattle.far_columns.specs.Vector.{Vector}
use Rattle.far_columns.specs.Effects.{is_full, next_group, next_name, objects_after_push, after_write_range}
use Rattle.far_columns.specs.NumbersTogether.{NumberColumns, objects_after_push_all}
use Rattle.far_columns.specs.Numbers.{Numbers, number_lists}
use Rattle.far_texts.specs.Effects.{set_in as text_set_in}
use Rattle.far_texts.specs.Texts.{Texts, lists_of}
use Rattle.far_texts.specs.Together.{all_begin, after_create_all}
use Rattle.far_rows.specs.declared.new_cell.NewCell.{NewCell}
use Rattle.far_rows.specs.declared.new_cell.NewCell.TheVariants as new_cell
use Rattle.far_rows.specs.declared.column_index.ColumnIndex.{ColumnIndex}
use Rattle.far_rows.specs.declared.column_index.ColumnIndex.TheVariants as column_index
use Rattle.far_rows.specs.ColumnIndexes.{kind_of, column_indexes_from}
use Rattle.far_rows.specs.Rows.{Rows, TextsMoved}
use Rattle.far_rows.specs.Setting.{set_in}
use Rattle.far_rows.specs.Opening.{empty_rows}
use Rattle.far_rows.specs.Jobs.{IsAfterArrive, after_leave_in}
use Rattle.far_table.specs.Live.{Moves}
use Rattle.far_table.specs.State.{LiveState}
use Rattle.far_frame.specs.declared.job.JobPhase.TheVariants as work_of
use Rattle.far_frame.specs.Jobs.{WorkOf, Commits, Installs, Merges}
use Rattle.far_frame.specs.State.{State}
use Rattle.far_shared.specs.Stripes.{AreRowsOf, KeepsColumns}

-- there is one index for each kind
pub column_indexes-length : (numbers texts : ℕ) (kinds : List Kind) → length (column_indexes_from numbers texts kinds) ≡ length kinds
column_indexes-length numbers texts [] = refl
column_indexes-length numbers texts (kind.Int ∷ kinds) = ap suc (column_indexes-length (numbers + 1) texts kinds)
column_indexes-length numbers texts (kind.Text ∷ kinds) = ap suc (column_indexes-length numbers (texts + 1) kinds)

module _ {X K : Type 0} where
  either-number : (b : Bool) (x y m : Movement X K) → x.number ≡ m.number → y.number ≡ m.number → (if b then x else y).number ≡ m.number
  either-number true x y m one other = one
  either-number false x y m one other = other

  found-number : {A : Type 0} (o : Option A) (f : A → Movement X K) (m : Movement X K) → ((a : A) → (f a).number ≡ m.number) → (option_map_or f o m).number ≡ m.number
  found-number None f m same = refl
  found-number (Some a) f m same = same a

  pushed-number : (m : Movement X K) (v : Vector X) (x : X) → (objects_after_push m v x).number ≡ m.number
  pushed-number m v x = either-number (is_full v) (after_create m (next_name v) (next_group v x)) (after_write_range m v v.len (x ∷ [])) m refl refl

  after_write-number : (m : Movement X K) (lists : List (Replacement X)) → (after_write_all m lists).number ≡ m.number
  after_write-number m [] = refl
  after_write-number m (r ∷ rs) = after_write-number (after_write m r.object) rs

  after_replace-number : (m : Movement X K) (lists : List (Replacement X)) → (after_replace_all m lists).number ≡ m.number
  after_replace-number m lists = after_write-number (record m { memory = replaced_all_in m.memory lists; records = with_lens m.records lists }) lists

module _ {K : Type 0} where
  all-pushed-number : (m : Movement (Option ℤ) K) (columns : NumberColumns) (numbers : Numbers) → (objects_after_push_all m columns numbers).number ≡ m.number
  all-pushed-number m [] numbers = refl
  all-pushed-number m (c ∷ columns) [] = refl
  all-pushed-number m (c ∷ columns) (number ∷ numbers) = all-pushed-number (objects_after_push m c number) columns numbers ∙ pushed-number m c number

  all-after_create-number : (m : Movement ℕ K) (columns : List Texts) (forms : List (ℕ × List ℕ)) → (after_create_all m columns forms).number ≡ m.number
  all-after_create-number m [] forms = refl
  all-after_create-number m (c ∷ columns) [] = refl
  all-after_create-number m (c ∷ columns) (form ∷ forms) = all-after_create-number (after_create m record { column = c.column; group = length c.objects } form.1) columns forms

  texts-number : (content : K → List ℕ) (r : Rows K) (texts : List (Option (List ℕ))) (now : Movement ℕ K) → TextsMoved content r texts now → now.number ≡ r.text_objects.number
  texts-number content r texts now moved = by (all_begin r.texts) refl
    where
      by : (b : Bool) → all_begin r.texts ≡ b → now.number ≡ r.text_objects.number
      by true is = ap (λ (m : Movement ℕ K). m.number) (moved.begun is) ∙ all-after_create-number r.text_objects r.texts _
      by false is = let h = moved.replaced is in ap (λ (m : Movement ℕ K). m.number) h.2 ∙ after_replace-number r.text_objects h.0

  -- unchanged rows keep their columns
  pub same-columns : (old new : Rows K) → new ≡ old → KeepsColumns old new
  same-columns old new same = record {
    column_indexes = ap (λ (r : Rows K). r.column_indexes) same;
    numbers = ap (λ (r : Rows K). r.number_objects.number) same;
    texts = ap (λ (r : Rows K). r.text_objects.number) same;
  }

  -- rows of a schema that keep their columns are rows of this schema
  pub still-of : (kinds : List Kind) (n : ℕ) (old new : Rows K) → KeepsColumns old new → AreRowsOf kinds n old → AreRowsOf kinds n new
  still-of kinds n old new kept of = record { column_indexes = ap length kept.column_indexes ∙ of.column_indexes; numbers = kept.numbers ∙ of.numbers; texts = kept.texts ∙ of.texts }

  -- a new table has rows of its schema
  pub empty-of : (kinds : List Kind) (limits : Limits) (n : ℕ) → AreRowsOf kinds n (empty_rows {K = K} kinds limits n)
  empty-of kinds limits n = record { column_indexes = column_indexes-length 0 0 kinds; numbers = refl; texts = refl }

  set-columns : (content : K → List ℕ) (old : Rows K) (s : ColumnIndex) (place : ℕ) (value : NewCell) → KeepsColumns old (set_in content old s place value)
  set-columns content old (column_index.Number i) place (new_cell.Number number) =
      record { column_indexes = refl; numbers = found-number (slice_get old.numbers i) (λ c. after_write_range old.number_objects c place (number ∷ [])) old.number_objects (λ c. refl); texts = refl }
  set-columns content old (column_index.Text i) place (new_cell.Text text) =
      record { column_indexes = refl; numbers = refl; texts = found-number (slice_get old.texts i) (λ c. text_set_in content old.text_objects c place text) old.text_objects (λ c. refl) }
  set-columns content old (column_index.Number i) place (new_cell.Text text) = same-columns old old refl
  set-columns content old (column_index.Text i) place (new_cell.Number number) = same-columns old old refl

  found-set : (content : K → List ℕ) (old new : Rows K) (found : Option ColumnIndex) (of : Kind) (place : ℕ) (value : NewCell)
      → option_map kind_of found ≡ Some of → IfSome found (λ s. new ≡ set_in content old s place value) → KeepsColumns old new
  found-set content old new None of place value there moved = absurd (let none : None ≡ Some of = there in cc)
  found-set content old new (Some s) of place value there moved = subst (KeepsColumns old) (sym moved) (set-columns content old s place value)

  -- an edit keeps the columns
  pub edit-columns : (content : K → List ℕ) (old : Rows K) (e : Edit) (new : Rows K) → Moves content old e new → KeepsColumns old new
  edit-columns content old (edit.Insert row) new h = record {
    column_indexes = h.2.column_indexes;
    numbers = ap (λ (m : Movement (Option ℤ) K). m.number) h.2.number_objects ∙ all-pushed-number old.number_objects old.numbers h.0.numbers;
    texts = texts-number content old h.0.texts new.text_objects h.2.text_objects;
  }
  edit-columns content old (edit.Set p c cell) new h = found-set content old new (slice_get old.column_indexes c) _ p h.0 h.2 h.3.moved
  edit-columns content old (edit.Remove p) new h = subst (KeepsColumns old) (sym h) (record { column_indexes = refl; numbers = refl; texts = refl })

  commit-columns : (old : Rows K) (of : Kind) (o : ℕ) (ticket : K) → KeepsColumns old (after_leave_in old of o ticket)
  commit-columns old kind.Int o ticket = record { column_indexes = refl; numbers = refl; texts = refl }
  commit-columns old kind.Text o ticket = record { column_indexes = refl; numbers = refl; texts = refl }

  found-arrived : {A : Type 0} (o : Option A) (old new : Rows K) (f : A → Rows K) → ((x : A) → KeepsColumns old (f x)) → IsSomeAnd o (λ x. new ≡ f x) → KeepsColumns old new
  found-arrived None old new f keeps h = absurd h
  found-arrived (Some x) old new f keeps h = subst (KeepsColumns old) (sym h) (keeps x)

  install-columns : (content : K → List ℕ) (old new : Rows K) (of : Kind) (o : ℕ) → IsAfterArrive content old of o new → KeepsColumns old new
  install-columns content old new kind.Int o h =
      found-arrived (number_lists content old.number_objects o) old new (λ list. record old { number_objects = after_arrive old.number_objects o list }) (λ list. record { column_indexes = refl; numbers = refl; texts = refl }) h
  install-columns content old new kind.Text o h =
      found-arrived (lists_of content old.text_objects o) old new (λ list. record old { text_objects = after_arrive old.text_objects o list }) (λ list. record { column_indexes = refl; numbers = refl; texts = refl }) h

  -- an accepted job keeps the columns
  pub commits-columns : (number_of : K → ℕ) (old new : State K) (w : WorkOf K) → Commits number_of old w new → KeepsColumns old.rows new.rows
  commits-columns number_of old new (work_of.Evac evac) h = absurd h
  commits-columns number_of old new (work_of.Carried carried) h = subst (KeepsColumns old.rows) (sym h.changed.rows.away) (commit-columns old.rows carried.job.kind carried.job.object carried.ticket)
  commits-columns number_of old new (work_of.Fetch fetch) h = absurd h
  commits-columns number_of old new (work_of.Fetched fetched) h = absurd h
  commits-columns number_of old new (work_of.Offload build) h = absurd h
  commits-columns number_of old new (work_of.Offloaded build) h = absurd h

  pub installs-columns : (number_of : K → ℕ) (content : K → List ℕ) (old new : State K) (w : WorkOf K) → Installs number_of old content w new → KeepsColumns old.rows new.rows
  installs-columns number_of content old new (work_of.Evac evac) h = absurd h
  installs-columns number_of content old new (work_of.Carried carried) h = absurd h
  installs-columns number_of content old new (work_of.Fetch fetch) h = absurd h
  installs-columns number_of content old new (work_of.Fetched fetched) h = install-columns content old.rows new.rows fetched.job.kind fetched.job.object h.changed.rows.back
  installs-columns number_of content old new (work_of.Offload build) h = absurd h
  installs-columns number_of content old new (work_of.Offloaded build) h = absurd h

  pub merges-columns : (number_of : K → ℕ) (old new : State K) (w : WorkOf K) → Merges number_of old w new → KeepsColumns old.rows new.rows
  merges-columns number_of old new (work_of.Evac evac) h = absurd h
  merges-columns number_of old new (work_of.Carried carried) h = absurd h
  merges-columns number_of old new (work_of.Fetch fetch) h = absurd h
  merges-columns number_of old new (work_of.Fetched fetched) h = absurd h
  merges-columns number_of old new (work_of.Offload build) h = absurd h
  merges-columns number_of old new (work_of.Offloaded build) h = same-columns old.rows new.rows (ap (λ (s : LiveState K). s.rows) h.changed.state)

  -- a call keeps the columns, if it does so when accepted and changes nothing when refused
  pub either-columns : {A : Type 0} (r : Result A Refusal) (old new : State K) (P : A → Type 0) (Q : Refusal → Type 0)
      → ((x : A) → P x → KeepsColumns old.rows new.rows) → ((e : Refusal) → Q e → new ≡ old) → IfOk r P → IfErr r Q → KeepsColumns old.rows new.rows
  either-columns (Ok x) old new P Q f g done refused = f x done
  either-columns (Err e) old new P Q f g done refused = same-columns old.rows new.rows (ap (λ (s : State K). s.rows) (g e refused))
