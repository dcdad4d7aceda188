-- Replacing the lists of several objects: what follows if it is refused, and if it is not.
use Rattle.std.proofs.Common.{◌≡◌, ℕ, Ok, Err, Bool, true, false, inl, inr, List, [], ◌∷◌, map, Option, Some, None, IsSome, refl, sym, subst, ◌∙◌}
use Rattle.std.specs.Prelude.{Result, IfErr, IsErrAnd, slice_index_or, All}
use Rattle.std.specs.Option.{option_or, option_map_or}
use Rattle.std.specs.List.{list_any}
use Rattle.std.proofs.lemmas.Bool.{cases_Bool}
use Rattle.std.proofs.lemmas.List.Folds.{list_any_at}
use Rattle.std.proofs.lemmas.List.Elements.{All-cons, All-nil}
use Rattle.far_types.specs.declared.refusal.Refusal.{Refusal}
use Rattle.far_types.specs.declared.refusal.Refusal.TheVariants as refusal
use Rattle.far_scopes.specs.declared.object_record.ObjectRecord.{ObjectRecord}
use Rattle.far_types.specs.FirstOf.{first_of}
use Rattle.far_scopes.specs.declared.replacement.Replacement.{Replacement}
use Rattle.far_scopes.specs.Memory.{place_of}
use Rattle.far_scopes.specs.Movement.{Movement, record_of, is_local}
use Rattle.far_scopes.specs.Refusing.{first_absent, any_written_out, replace_all_refusal}
use Rattle.far_scopes.specs.Replacing.{no_space_for_all}
use Rattle.far_scopes.proofs.MemoryWordPlaces.{some-true}
use Rattle.far_scopes.proofs.EnteringRefusals.{first-local}

-- if `list_any` is false, no element passes
pub none-listed : {A : Type 0} (p : A → Bool) (xs : List A) → list_any p xs ≡ false → All (λ x. p x ≡ false) xs
none-listed p xs none k d lt = elim (cases_Bool (p (slice_index_or xs k d))) [
  | inl passes ↦ absurd (let never = sym (list_any_at p xs k d lt passes) ∙ none in cc)
  | inr fails ↦ fails
]

module _ {X K : Type 0} (m : Movement X K) where
  -- the listed objects are local if none of them is refused as absent
  pub all-local : (rs : List (Replacement X)) → first_absent m (map (λ r. r.object) rs) ≡ None → All (λ r. is_local m r.object ≡ true) rs
  all-local [] free = All-nil (λ (s : Replacement X). is_local m s.object ≡ true)
  all-local (r ∷ rs) free =
      let here = first-local m r.object (map (λ (s : Replacement X). s.object) rs) free in
      All-cons (λ (s : Replacement X). is_local m s.object ≡ true) r rs here.0 (all-local rs here.1)

  pub all-placed : (rs : List (Replacement X)) → first_absent m (map (λ r. r.object) rs) ≡ None → All (λ r. IsSome (place_of m.memory.words r.object)) rs
  all-placed rs free k d lt = some-true _ (all-local rs free k d lt)

-- a property of a refusal holds for the result that passes it on
pub err-handed : {A : Type 0} (r : Result A Refusal) (given : Refusal) (P : Refusal → Type 0) → P given → IsErrAnd r (λ e. e ≡ given) → IfErr r P
err-handed (Ok x) given P known h = absurd h
err-handed (Err e) given P known h = subst P (sym h) known

-- the order of the refusals: space and writes matter only if all listed objects are local
pub refusal-is : {X K : Type 0} (m : Movement X K) (lists : List (Replacement X)) (checked : Option Refusal) → first_absent m (map (λ r. r.object) lists) ≡ None → checked ≡ first_of (any_written_out m lists ∷ [])
    → replace_all_refusal m lists ≡ option_or (first_of (no_space_for_all m.memory.state lists ∷ [])) checked
refusal-is m lists checked here is = rw (here, is) (two-first (no_space_for_all m.memory.state lists) (any_written_out m lists))
  where
    two-first : (a b : Bool × Refusal) → first_of (a ∷ b ∷ []) ≡ option_or (first_of (a ∷ [])) (first_of (b ∷ []))
    two-first (true, r) b = refl
    two-first (false, r) b = refl

pub checked-free : (full checked : Option Refusal) → option_or full checked ≡ None → checked ≡ None
checked-free None checked free = free
checked-free (Some r) checked free = cc

-- the refusal Absent is not NoMemory
name-no-memory : {K : Type 0} (object_record : Option (ObjectRecord K)) (e : Refusal) → Some (option_map_or (λ (x : ObjectRecord K). refusal.Absent x.name.column x.name.group) object_record refusal.StaleJob) ≡ Some e → e ≡ refusal.NoMemory → ⊥
name-no-memory None e stated memory = cc
name-no-memory (Some x) e stated memory = cc

pub absent-no-memory : {X K : Type 0} (m : Movement X K) (objects : List ℕ) (e : Refusal) → first_absent m objects ≡ Some e → e ≡ refusal.NoMemory → ⊥
absent-no-memory m [] e is memory = cc
absent-no-memory m (o ∷ objects) e is memory = elim (cases_Bool (is_local m o)) [
  | inl here ↦ absent-no-memory m objects e (sym (rw here refl) ∙ is) memory
  | inr away ↦ name-no-memory (record_of m o) e (sym (rw away refl) ∙ is) memory
]
