-- Objects keep their names, whatever is done to one of them.
use Rattle.std.proofs.Common.{◌≡◌, inl, inr, ℕ, ◌+◌, List, [], ◌∷◌, length, map, set, Option, None, Some, refl, sym, ap, ◌∙◌}
use Rattle.std.specs.Prelude.{Result, option_map, OnOk, OnErr, IsSomeAnd, slice_get}
use Rattle.std.proofs.lemmas.List.{length-map, map-set, set-get_or}
use Rattle.std.proofs.lemmas.Option.{slice_get-map, get_or_from_slice_get}
use Rattle.far_types.specs.declared.name.Name.{Name}
use Rattle.far_types.specs.declared.refusal.Refusal.{Refusal}
use Rattle.far_scopes.specs.declared.object_record.ObjectRecord.{ObjectRecord}
use Rattle.far_scopes.specs.declared.replacement.Replacement.{Replacement}
use Rattle.far_scopes.specs.Movement.{Movement}
use Rattle.far_scopes.specs.Effects.{with_record, with_lens, after_write, after_write_all, after_replace, after_replace_all, after_arrive}
use Rattle.far_scopes.proofs.MemoryPlaces.{cases_option}
use Rattle.far_scopes.proofs.Outcomes.{by-outcome}
use Rattle.far_rows.specs.Naming.{names_of}

abbrev names_in : {K : Type 0} → List (ObjectRecord K) → List Name
names_in records = map (λ object_record. object_record.name) records

-- the names stay when the record of an object changes but not its name
pub names-with : {K : Type 0} (records : List (ObjectRecord K)) (o : ℕ) (change : ObjectRecord K → ObjectRecord K) → ((object_record : ObjectRecord K) → (change object_record).name ≡ object_record.name) → names_in (with_record records o change) ≡ names_in records
names-with {K} records o change keeps = elim (cases_option (slice_get records o)) [
  | inl none ↦ rw none refl
  | inr (object_record, is) ↦
      let named : slice_get (names_in records) o ≡ Some object_record.name = slice_get-map (λ e. e.name) records o ∙ ap (option_map (λ (e : ObjectRecord K). e.name)) is in
      rw is (map-set (λ e. e.name) records o (change object_record)
      ∙ ap (set (names_in records) o) (keeps object_record ∙ sym (get_or_from_slice_get (names_in records) o object_record.name object_record.name named))
      ∙ set-get_or (names_in records) o object_record.name)
]

-- there are as many objects as names
pub as-many : {X K L : Type 0} (old : Movement X K) (new : Movement X L) → names_of new ≡ names_of old → length new.records ≡ length old.records
as-many old new same = sym (length-map new.records (λ e. e.name)) ∙ ap length same ∙ length-map old.records (λ e. e.name)

-- the names stay, whether a call that keeps them succeeds or is refused
pub still-named : {X K A : Type 0} (old new done : Movement X K) (result : Result A Refusal) → OnOk result (new ≡ done) → OnErr result (new ≡ old) → names_of done ≡ names_of old → names_of new ≡ names_of old
still-named old new done result ok err same = by-outcome result ok err (λ e. ap names_of e ∙ same) (ap names_of)

-- the names stay if an object is brought back
came : {X K : Type 0} (old new : Movement X K) (o : ℕ) (list : Option (List X)) → IsSomeAnd list (λ xs. new ≡ after_arrive old o xs) → names_of new ≡ names_of old
came old new o (Some xs) is = ap names_of is
came old new o None is = absurd is

pub still-named-there : {X K A : Type 0} (old new : Movement X K) (o : ℕ) (list : Option (List X)) (result : Result A Refusal) → OnOk result (IsSomeAnd list (λ xs. new ≡ after_arrive old o xs)) → OnErr result (new ≡ old) → names_of new ≡ names_of old
still-named-there old new o list result ok err = by-outcome result ok err (came old new o list) (ap names_of)

module _ {X K : Type 0} where
  pub names-after_write : (m : Movement X K) (o : ℕ) → names_of (after_write m o) ≡ names_of m
  names-after_write m o = names-with m.records o (λ object_record. record object_record { version = object_record.version + 1 }) (λ object_record. refl)

  pub names-after_replace : (m : Movement X K) (o : ℕ) (list : List X) → names_of (after_replace m o list) ≡ names_of m
  names-after_replace m o list =
      names-with (with_record m.records o (λ object_record. record object_record { len = length list })) o (λ object_record. record object_record { version = object_record.version + 1 }) (λ object_record. refl)
      ∙ names-with m.records o (λ object_record. record object_record { len = length list }) (λ object_record. refl)

  names-lens : (records : List (ObjectRecord K)) (lists : List (Replacement X)) → names_in (with_lens records lists) ≡ names_in records
  names-lens records [] = refl
  names-lens records (r ∷ rs) =
      let change : ObjectRecord K → ObjectRecord K = λ object_record. record object_record { len = length r.list.items } in
      names-lens (with_record records r.object change) rs ∙ names-with records r.object change (λ object_record. refl)

  names-after_write_all : (m : Movement X K) (lists : List (Replacement X)) → names_of (after_write_all m lists) ≡ names_of m
  names-after_write_all m [] = refl
  names-after_write_all m (r ∷ rs) = names-after_write_all (after_write m r.object) rs ∙ names-after_write m r.object

  pub names-after_replace_all : (m : Movement X K) (lists : List (Replacement X)) → names_of (after_replace_all m lists) ≡ names_of m
  names-after_replace_all m lists = names-after_write_all _ lists ∙ names-lens m.records lists
