-- Changes of objects that keep their pins, and keep pinned local objects local.
use Rattle.std.proofs.Common.{◌≡◌, ◌≢◌, ℕ, zero, suc, ◌+◌, ◌-◌, ◌==◌, Bool, true, false, if◌then◌else◌, List, [], ◌∷◌, ◌++◌, map, length, Option, None, Some, refl, sym, ap, subst, ◌∙◌, arith}
use Rattle.std.specs.Prelude.{is_some, slice_get, slice_set}
use Rattle.std.specs.Option.{option_map_or, option_and_then}
use Rattle.far_types.specs.declared.name.Name.{Name}
use Rattle.far_pointer.specs.declared.pointer.At.{At}
use Rattle.far_pointer.specs.declared.pointer.Pointer.{Pointer}
use Rattle.far_pointer.specs.declared.pointer.Pointer.TheVariants.{Local, Remote}
use Rattle.far_pointer.specs.Layout.{with_dirty, with_hot, with_at}
use Rattle.far_log.specs.RegionState.{RegionState, Part}
use Rattle.far_scopes.specs.declared.object_record.ObjectRecord.{ObjectRecord}
use Rattle.far_scopes.specs.declared.replacement.Replacement.{Replacement}
use Rattle.far_scopes.specs.Memory.{at_of}
use Rattle.far_scopes.specs.Movement.{Movement, is_local, pins_of}
use Rattle.far_scopes.specs.Compaction.{moved_word, offset_after}
use Rattle.far_scopes.specs.Effects.{new_record, with_record, with_lens, after_pin, after_unpin, after_leave, after_arrive}
use Rattle.far_scopes.specs.Placing.{spot, with_new}
use Rattle.far_scopes.specs.Replacing.{moved_all}

pub false-true : {A : Type 0} → false ≡ true → A
false-true h = absurd (let on : true ≡ false = sym h in cc)

-- changing one element of a list
module _ {X : Type 0} (change : X → X) where
  abbrev pub with_changed : List X → ℕ → List X
  with_changed xs o = option_map_or (λ x. slice_set xs o (change x)) (slice_get xs o) xs

  pub changed-later : (x : X) (xs : List X) (o : ℕ) → with_changed (x ∷ xs) (suc o) ≡ x ∷ with_changed xs o
  changed-later x xs o = found (slice_get xs o) where
    found : (at : Option X) → option_map_or (λ y. slice_set (x ∷ xs) (suc o) (change y)) at (x ∷ xs) ≡ x ∷ option_map_or (λ y. slice_set xs o (change y)) at xs
    found None = refl
    found (Some y) = refl

  -- a property that the change keeps is kept for every element of the list
  pub reads-same : {A : Type 0} (reading : Option X → A) → ((x : X) → reading (Some (change x)) ≡ reading (Some x)) → (xs : List X) (o p : ℕ) → reading (slice_get (with_changed xs o) p) ≡ reading (slice_get xs p)
  reads-same reading same [] o p = refl
  reads-same reading same (x ∷ xs) zero zero = same x
  reads-same reading same (x ∷ xs) zero (suc p) = refl
  reads-same reading same (x ∷ xs) (suc o) zero = ap (λ (l : List X). reading (slice_get l zero)) (changed-later x xs o)
  reads-same reading same (x ∷ xs) (suc o) (suc p) = ap (λ (l : List X). reading (slice_get l (suc p))) (changed-later x xs o) ∙ reads-same reading same xs o p

-- whether a word exists and is local
abbrev pub says_local : Option Pointer → Bool
says_local word = is_some (option_and_then at_of word)

pub local-after_mark : (word : Pointer) → says_local (Some (with_hot (with_dirty word) true)) ≡ says_local (Some word)
local-after_mark (Local at dirty hot far) = refl
local-after_mark Remote = refl

pub local-after_heat : (word : Pointer) → says_local (Some (with_hot word true)) ≡ says_local (Some word)
local-after_heat (Local at dirty hot far) = refl
local-after_heat Remote = refl

pub local-moved : (to : At) (word : Pointer) → says_local (Some (with_at word to)) ≡ says_local (Some word)
local-moved to (Local at dirty hot far) = refl
local-moved to Remote = refl

-- adding a word, or making one local, keeps local objects local
pub local-more : (words : List Pointer) (word : Pointer) (p : ℕ) → says_local (slice_get words p) ≡ true → says_local (slice_get (words ++ word ∷ []) p) ≡ true
local-more [] word p here = false-true here
local-more (w ∷ words) word zero here = here
local-more (w ∷ words) word (suc p) here = local-more words word p here

local-arriving : (words : List Pointer) (o : ℕ) (at : At) (dirty hot far : Bool) (p : ℕ) → says_local (slice_get words p) ≡ true → says_local (slice_get (slice_set words o (Local at dirty hot far)) p) ≡ true
local-arriving [] o at dirty hot far p here = false-true here
local-arriving (w ∷ words) zero at dirty hot far zero here = refl
local-arriving (w ∷ words) zero at dirty hot far (suc p) here = here
local-arriving (w ∷ words) (suc o) at dirty hot far zero here = here
local-arriving (w ∷ words) (suc o) at dirty hot far (suc p) here = local-arriving words o at dirty hot far p here

-- making one word remote keeps the other local objects local
local-gone : (words : List Pointer) (o p : ℕ) → (p ≡ o → ⊥) → says_local (slice_get words p) ≡ true → says_local (slice_get (slice_set words o Remote) p) ≡ true
local-gone [] o p other here = false-true here
local-gone (w ∷ words) zero zero other here = absurd (other refl)
local-gone (w ∷ words) zero (suc p) other here = here
local-gone (w ∷ words) (suc o) zero other here = here
local-gone (w ∷ words) (suc o) (suc p) other here = local-gone words o p (λ same. other (ap suc same)) here

-- compacting a segment keeps local objects local
module _ {X : Type 0} (parts : List (Part X)) (order : List ℕ) (from to : ℕ) where
  local-either : (b : Bool) (at : At) (dirty hot far : Bool) → says_local (Some (if b then Local record { segment = to; offset = offset_after parts order at.offset } dirty false far else Local at dirty hot far)) ≡ true
  local-either true at dirty hot far = refl
  local-either false at dirty hot far = refl

  local-word : (word : Pointer) → says_local (Some (moved_word parts order from to word)) ≡ says_local (Some word)
  local-word (Local at dirty hot far) = local-either (at.segment == from) at dirty hot far
  local-word Remote = refl

  pub local-map : (words : List Pointer) (p : ℕ) → says_local (slice_get (map (moved_word parts order from to) words) p) ≡ says_local (slice_get words p)
  local-map [] p = refl
  local-map (w ∷ words) zero = local-word w
  local-map (w ∷ words) (suc p) = local-map words p

-- replacing lists keeps local objects local
pub moved-local : {X : Type 0} (rs : List (Replacement X)) (region : RegionState X) (words : List Pointer) (p : ℕ) → says_local (slice_get (moved_all region words rs) p) ≡ says_local (slice_get words p)
moved-local [] region words p = refl
moved-local (r ∷ rs) region words p =
    let to = spot region (length r.list.items) in
    reads-same (λ (word : Pointer). with_at word to) says_local (local-moved to) (moved_all (with_new region r.list.items) words rs) r.object p
    ∙ moved-local rs (with_new region r.list.items) words p

module _ {K : Type 0} where
  -- the pins in a record, or 0 if there is none
  abbrev pub says_pins : Option (ObjectRecord K) → ℕ
  says_pins object_record = option_map_or (λ e. e.pins) object_record 0

  pub pins-more : (records : List (ObjectRecord K)) (name : Name) (n p : ℕ) → says_pins (slice_get (records ++ new_record name n ∷ []) p) ≡ says_pins (slice_get records p)
  pins-more [] name n zero = refl
  pins-more [] name n (suc p) = refl
  pins-more (e ∷ records) name n zero = refl
  pins-more (e ∷ records) name n (suc p) = pins-more records name n p

  pub pins-lens : {X : Type 0} (rs : List (Replacement X)) (records : List (ObjectRecord K)) (p : ℕ) → says_pins (slice_get (with_lens records rs) p) ≡ says_pins (slice_get records p)
  pins-lens [] records p = refl
  pins-lens (r ∷ rs) records p =
      pins-lens rs (with_record records r.object (λ object_record. record object_record { len = length r.list.items })) p
      ∙ reads-same (λ (object_record : ObjectRecord K). record object_record { len = length r.list.items }) says_pins (λ e. refl) records r.object p

  abbrev pub one_less : ObjectRecord K → ObjectRecord K
  one_less object_record = record object_record { pins = object_record.pins - 1 }

  -- unpinning an object leaves one without pins without pins
  pins-less : (records : List (ObjectRecord K)) (o p : ℕ) → says_pins (slice_get records p) ≡ 0 → says_pins (slice_get (with_record records o one_less) p) ≡ 0
  pins-less [] o p none = none
  pins-less (e ∷ records) zero zero none = omega (arith, none)
  pins-less (e ∷ records) zero (suc p) none = none
  pins-less (e ∷ records) (suc o) zero none = ap (λ (l : List (ObjectRecord K)). says_pins (slice_get l zero)) (changed-later one_less e records o) ∙ none
  pins-less (e ∷ records) (suc o) (suc p) none = ap (λ (l : List (ObjectRecord K)). says_pins (slice_get l (suc p))) (changed-later one_less e records o) ∙ pins-less records o p none

module _ {X K : Type 0} where
  -- each object keeps its pins, and pinned local objects stay local
  pub record KeepsPinned (old new : Movement X K) : Type 0 where
    pub pins : (o : ℕ) → pins_of new o ≡ pins_of old o
    pub here : (o : ℕ) → pins_of old o ≢ 0 → is_local old o ≡ true → is_local new o ≡ true

  pub keeps-same : (m : Movement X K) → KeepsPinned m m
  keeps-same m = record { pins = λ o. refl; here = λ o some here. here }

  pub keeps-after_arrive : (m : Movement X K) (o : ℕ) (list : List X) → KeepsPinned m (after_arrive m o list)
  keeps-after_arrive m o list = record { pins = λ p. refl; here = λ p some here. local-arriving m.memory.words o (spot m.memory.state (length list)) false true true p here }

  -- evicting an object without pins keeps pinned objects local
  pub keeps-after_leave : (m : Movement X K) (o : ℕ) (ticket : K) → pins_of m o ≡ 0 → KeepsPinned m (after_leave m o ticket)
  keeps-after_leave m o ticket free = record {
    pins = λ p. reads-same (λ (object_record : ObjectRecord K). record object_record { leavings = object_record.leavings + 1; ticket = Some ticket }) says_pins (λ e. refl) m.records o p;
    here = λ p some here. local-gone m.memory.words o p (λ same. some (subst (λ (q : ℕ). pins_of m q ≡ 0) (sym same) free)) here;
  }

  -- pinning and unpinning leave which objects are local
  pub after_pin-here : (m : Movement X K) (o p : ℕ) → is_local (after_pin m o) p ≡ is_local m p
  after_pin-here m o p = refl

  pub unpinned-some : (m : Movement X K) (o p : ℕ) → pins_of (after_unpin m o) p ≢ 0 → pins_of m p ≢ 0
  unpinned-some m o p some none = some (pins-less m.records o p none)
