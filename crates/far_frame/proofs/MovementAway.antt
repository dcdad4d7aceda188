-- Changes of objects that keep their pins, and which of them are away. A new object is local.
use Rattle.std.proofs.Common.{◌≡◌, ℕ, zero, suc, ◌+◌, ◌==◌, Bool, true, false, if◌then◌else◌, List, map, [], ◌∷◌, ◌++◌, length, ℤ, Option, Some, refl, ap, ◌∙◌}
use Rattle.std.specs.Prelude.{slice_get}
use Rattle.std.specs.Option.{option_map_or}
use Rattle.far_types.specs.declared.name.Name.{Name}
use Rattle.far_pointer.specs.declared.pointer.At.{At}
use Rattle.far_pointer.specs.declared.pointer.Pointer.{Pointer}
use Rattle.far_pointer.specs.declared.pointer.Pointer.TheVariants.{Local, Remote}
use Rattle.far_pointer.specs.Layout.{with_dirty, with_hot, with_at}
use Rattle.far_log.specs.RegionState.{RegionState, Part, segment_of}
use Rattle.far_scopes.specs.declared.object_record.ObjectRecord.{ObjectRecord}
use Rattle.far_scopes.specs.declared.replacement.Replacement.{Replacement}
use Rattle.far_scopes.specs.Memory.{Memory}
use Rattle.far_scopes.specs.Movement.{Movement, is_local, pins_of, word_of}
use Rattle.far_scopes.specs.Compaction.{moved_word, hot_first, offset_after, IsCompacted}
use Rattle.far_scopes.specs.Effects.{with_record, after_create, after_write, after_replace, with_lens, after_write_all, after_replace_all, after_touch}
use Rattle.far_scopes.specs.Placing.{spot, with_new}
use Rattle.far_scopes.specs.Replacing.{moved_all, replaced_all as replaced_all_in}
use Rattle.far_columns.specs.Vector.{Vector, object_at}
use Rattle.far_columns.specs.Effects.{is_full, next_name, next_group, objects_after_push, after_write_range}
use Rattle.far_columns.specs.Numbers.{Numbers}
use Rattle.far_columns.specs.NumbersTogether.{NumberColumns, objects_after_push_all}
use Rattle.far_texts.specs.Texts.{Texts}
use Rattle.far_texts.specs.Together.{after_create_all}
use Rattle.far_frame.specs.TableViews.{is_remote}
use Rattle.far_frame.proofs.MovementPins.{reads-same, says_local, says_pins, with_changed, local-after_mark, local-after_heat, local-moved, local-more, local-map, moved-local, pins-more, pins-lens}

-- whether a word exists and is remote
abbrev pub says_away : Option Pointer → Bool
says_away word = option_map_or is_remote word false

away-after_mark : (word : Pointer) → says_away (Some (with_hot (with_dirty word) true)) ≡ says_away (Some word)
away-after_mark (Local at dirty hot far) = refl
away-after_mark Remote = refl

away-after_heat : (word : Pointer) → says_away (Some (with_hot word true)) ≡ says_away (Some word)
away-after_heat (Local at dirty hot far) = refl
away-after_heat Remote = refl

away-moved : (to : At) (word : Pointer) → says_away (Some (with_at word to)) ≡ says_away (Some word)
away-moved to (Local at dirty hot far) = refl
away-moved to Remote = refl

-- adding a local object leaves which of the others are away
away-more : (words : List Pointer) (at : At) (dirty hot far : Bool) (p : ℕ) → says_away (slice_get (words ++ Local at dirty hot far ∷ []) p) ≡ says_away (slice_get words p)
away-more [] at dirty hot far zero = refl
away-more [] at dirty hot far (suc p) = refl
away-more (w ∷ words) at dirty hot far zero = refl
away-more (w ∷ words) at dirty hot far (suc p) = away-more words at dirty hot far p

-- compacting a segment leaves which objects are away
module _ {X : Type 0} (parts : List (Part X)) (order : List ℕ) (from to : ℕ) where
  away-either : (b : Bool) (at : At) (dirty hot far : Bool) → says_away (Some (if b then Local record { segment = to; offset = offset_after parts order at.offset } dirty false far else Local at dirty hot far)) ≡ false
  away-either true at dirty hot far = refl
  away-either false at dirty hot far = refl

  away-word : (word : Pointer) → says_away (Some (moved_word parts order from to word)) ≡ says_away (Some word)
  away-word (Local at dirty hot far) = away-either (at.segment == from) at dirty hot far
  away-word Remote = refl

  away-map : (words : List Pointer) (p : ℕ) → says_away (slice_get (map (moved_word parts order from to) words) p) ≡ says_away (slice_get words p)
  away-map [] p = refl
  away-map (w ∷ words) zero = away-word w
  away-map (w ∷ words) (suc p) = away-map words p

-- replacing lists leaves which objects are away
moved-away : {X : Type 0} (rs : List (Replacement X)) (region : RegionState X) (words : List Pointer) (p : ℕ) → says_away (slice_get (moved_all region words rs) p) ≡ says_away (slice_get words p)
moved-away [] region words p = refl
moved-away (r ∷ rs) region words p =
    let to = spot region (length r.list.items) in
    reads-same (λ (word : Pointer). with_at word to) says_away (away-moved to) (moved_all (with_new region r.list.items) words rs) r.object p
    ∙ moved-away rs (with_new region r.list.items) words p

module _ {X K : Type 0} where
  -- each object keeps its pins, is away exactly if it was away before, and is local if it was local
  pub record KeepsAway (old new : Movement X K) : Type 0 where
    pub pins : (o : ℕ) → pins_of new o ≡ pins_of old o
    pub away : (o : ℕ) → says_away (word_of new o) ≡ says_away (word_of old o)
    pub here : (o : ℕ) → is_local old o ≡ true → is_local new o ≡ true

  pub keeps-same : (m : Movement X K) → KeepsAway m m
  keeps-same m = record { pins = λ o. refl; away = λ o. refl; here = λ o here. here }

  pub keeps-then : (a b c : Movement X K) → KeepsAway a b → KeepsAway b c → KeepsAway a c
  keeps-then a b c h k = record { pins = λ o. k.pins o ∙ h.pins o; away = λ o. k.away o ∙ h.away o; here = λ o here. k.here o (h.here o here) }

  keeps-after_write : (m : Movement X K) (o : ℕ) → KeepsAway m (after_write m o)
  keeps-after_write m o = record {
    pins = λ p. reads-same (λ (object_record : ObjectRecord K). record object_record { version = object_record.version + 1 }) says_pins (λ e. refl) m.records o p;
    away = λ p. reads-same (λ (word : Pointer). with_hot (with_dirty word) true) says_away away-after_mark m.memory.words o p;
    here = λ p here. reads-same (λ (word : Pointer). with_hot (with_dirty word) true) says_local local-after_mark m.memory.words o p ∙ here;
  }

  pub keeps-after_touch : (m : Movement X K) (o : ℕ) → KeepsAway m (after_touch m o)
  keeps-after_touch m o = record {
    pins = λ p. refl;
    away = λ p. reads-same (λ (word : Pointer). with_hot word true) says_away away-after_heat m.memory.words o p;
    here = λ p here. reads-same (λ (word : Pointer). with_hot word true) says_local local-after_heat m.memory.words o p ∙ here;
  }

  pub keeps-after_replace : (m : Movement X K) (o : ℕ) (list : List X) → KeepsAway m (after_replace m o list)
  keeps-after_replace m o list = record {
    pins = λ p.
        reads-same (λ (object_record : ObjectRecord K). record object_record { version = object_record.version + 1 }) says_pins (λ e. refl) (with_record m.records o (λ object_record. record object_record { len = length list })) o p
        ∙ reads-same (λ (object_record : ObjectRecord K). record object_record { len = length list }) says_pins (λ e. refl) m.records o p;
    away = λ p.
        let to = spot m.memory.state (length list) in
        reads-same (λ (word : Pointer). with_hot (with_dirty word) true) says_away away-after_mark (with_changed (λ (word : Pointer). with_at word to) m.memory.words o) o p
        ∙ reads-same (λ (word : Pointer). with_at word to) says_away (away-moved to) m.memory.words o p;
    here = λ p here.
        let to = spot m.memory.state (length list) in
        reads-same (λ (word : Pointer). with_hot (with_dirty word) true) says_local local-after_mark (with_changed (λ (word : Pointer). with_at word to) m.memory.words o) o p
        ∙ reads-same (λ (word : Pointer). with_at word to) says_local (local-moved to) m.memory.words o p
        ∙ here;
  }

  keeps-after_write_all : (rs : List (Replacement X)) (m : Movement X K) → KeepsAway m (after_write_all m rs)
  keeps-after_write_all [] m = keeps-same m
  keeps-after_write_all (r ∷ rs) m = keeps-then m (after_write m r.object) (after_write_all (after_write m r.object) rs) (keeps-after_write m r.object) (keeps-after_write_all rs (after_write m r.object))

  pub keeps-after_replace_all : (m : Movement X K) (rs : List (Replacement X)) → KeepsAway m (after_replace_all m rs)
  keeps-after_replace_all m rs =
      let mid : Movement X K = record m { memory = replaced_all_in m.memory rs; records = with_lens m.records rs } in
      keeps-then m mid (after_write_all mid rs) (record {
        pins = λ p. pins-lens rs m.records p;
        away = λ p. moved-away rs m.memory.state m.memory.words p;
        here = λ p here. moved-local rs m.memory.state m.memory.words p ∙ here;
      }) (keeps-after_write_all rs mid)

  keeps-after_create : (m : Movement X K) (name : Name) (list : List X) → KeepsAway m (after_create m name list)
  keeps-after_create m name list = record {
    pins = λ p. pins-more m.records name (length list) p;
    away = λ p. away-more m.memory.words (spot m.memory.state (length list)) true true false p;
    here = λ p here. local-more m.memory.words (Local (spot m.memory.state (length list)) true true false) p here;
  }

  pub keeps-compacted : (m new : Movement X K) (segment : ℕ) → IsCompacted m.memory new.memory segment → ((p : ℕ) → pins_of new p ≡ pins_of m p) → KeepsAway m new
  keeps-compacted m new segment is pins = record {
    pins = pins;
    away = λ p.
        ap (λ (memory : Memory X). says_away (slice_get memory.words p)) is.memory
        ∙ away-map (segment_of m.memory.state segment).parts (hot_first m.memory segment) segment is.to m.memory.words p;
    here = λ p here.
        ap (λ (memory : Memory X). says_local (slice_get memory.words p)) is.memory
        ∙ local-map (segment_of m.memory.state segment).parts (hot_first m.memory segment) segment is.to m.memory.words p
        ∙ here;
  }

  keeps-range : (m : Movement X K) (v : Vector X) (i : ℕ) (range : List X) → KeepsAway m (after_write_range m v i range)
  keeps-range m v i range =
      let o = object_at v i in
      keeps-then m (after_write m o) (after_write_range m v i range) (keeps-after_write m o) (record { pins = λ p. refl; away = λ p. refl; here = λ p here. here })

  pub keeps-pushed : (m : Movement X K) (v : Vector X) (x : X) → KeepsAway m (objects_after_push m v x)
  keeps-pushed m v x = by (is_full v) where
    by : (b : Bool) → KeepsAway m (if b then after_create m (next_name v) (next_group v x) else after_write_range m v v.len (x ∷ []))
    by true = keeps-after_create m (next_name v) (next_group v x)
    by false = keeps-range m v v.len (x ∷ [])

  pub keeps-set : (m : Movement X K) (v : Vector X) (i : ℕ) (x : X) → KeepsAway m (after_write_range m v i (x ∷ []))
  keeps-set m v i x = keeps-range m v i (x ∷ [])

module _ {K : Type 0} where
  pub keeps-all_pushed : (columns : NumberColumns) (m : Movement (Option ℤ) K) (numbers : Numbers) → KeepsAway m (objects_after_push_all m columns numbers)
  keeps-all_pushed [] m numbers = keeps-same m
  keeps-all_pushed (c ∷ columns) m [] = keeps-same m
  keeps-all_pushed (c ∷ columns) m (number ∷ numbers) =
      let mid = objects_after_push m c number in
      keeps-then m mid (objects_after_push_all mid columns numbers) (keeps-pushed m c number) (keeps-all_pushed columns mid numbers)

  pub keeps-after_create_all : (columns : List Texts) (m : Movement ℕ K) (forms : List (ℕ × List ℕ)) → KeepsAway m (after_create_all m columns forms)
  keeps-after_create_all [] m forms = keeps-same m
  keeps-after_create_all (c ∷ columns) m [] = keeps-same m
  keeps-after_create_all (c ∷ columns) m (form ∷ forms) =
      let name : Name = record { column = c.column; group = length c.objects } in
      let mid = after_create m name form.1 in
      keeps-then m mid (after_create_all mid columns forms) (keeps-after_create m name form.1) (keeps-after_create_all columns mid forms)
