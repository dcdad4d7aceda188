-- The effects of calls on objects.
use Rattle.std.specs.Prelude.{ℕ, ◌+◌, ◌-◌, List, [], ◌∷◌, ◌++◌, length, take, None, Some, slice_get, slice_set}
use Rattle.std.specs.Option.{option_map_or}
use Rattle.far_types.specs.declared.name.Name.{Name}
use Rattle.far_scopes.specs.declared.object_record.ObjectRecord.{ObjectRecord}
use Rattle.far_scopes.specs.Recency.{without, after_use}
use Rattle.far_scopes.specs.Placing.{with_object, after_remove_last, after_mark, after_heat, after_send_away, after_bring, replaced as replaced_in, after_overwrite as after_overwrite_in}
use Rattle.far_scopes.specs.declared.replacement.Replacement.{Replacement}
use Rattle.far_scopes.specs.Movement.{Movement}
use Rattle.far_scopes.specs.Replacing.{replaced_all as replaced_all_in}

-- the record of a new object
abbrev pub new_record : {K : Type 0} → Name → ℕ → ObjectRecord K
new_record name len = record
    { name = name; len = len; version = 0; leavings = 0; pins = 0; ticket = None }

-- the records with the record of object o changed by a function
abbrev pub with_record : {K : Type 0} → List (ObjectRecord K) → ℕ
    → (ObjectRecord K → ObjectRecord K) → List (ObjectRecord K)
with_record records o change = option_map_or
    (λ object_record. slice_set records o (change object_record)) (slice_get records o) records

module _ {X K : Type 0} where
  -- the objects and a new one, which is local, dirty, hot and the most recently used, without writes, evictions, pins or a far copy
  abbrev pub after_create : Movement X K → Name → List X → Movement X K
  after_create m name list = record m {
    memory = with_object m.memory list;
    records = m.records ++ new_record name (length list) ∷ [];
    order = length m.records ∷ m.order;
  }

  -- the objects without the last one
  abbrev pub after_uncreate : Movement X K → Movement X K
  after_uncreate m = record m {
    memory = after_remove_last m.memory;
    records = take (length m.records - 1) m.records;
    order = without m.order (length m.records - 1);
  }

  -- object o is marked as recently used, if it is local: it is hot, and the most recently used
  abbrev pub after_touch : Movement X K → ℕ → Movement X K
  after_touch m o = record m { memory = after_heat m.memory o; order = after_use m.order o }

  -- object o, which is local, counts as written: it is dirty, hot and the most recently used, and its version is greater by one
  abbrev pub after_write : Movement X K → ℕ → Movement X K
  after_write m o = record m {
    memory = after_mark m.memory o;
    records = with_record m.records o
        (λ object_record. record object_record { version = object_record.version + 1 });
    order = after_use m.order o;
  }

  -- ws is written over the elements of object o from index i on
  abbrev pub after_overwrite : Movement X K → ℕ → ℕ → List X → Movement X K
  after_overwrite m o i ws = record m { memory = after_overwrite_in m.memory o i ws }

  -- object o, which is local, has this new list and counts as written
  abbrev pub after_replace : Movement X K → ℕ → List X → Movement X K
  after_replace m o list = after_write (record m {
    memory = replaced_in m.memory o list;
    records = with_record m.records o
        (λ object_record. record object_record { len = length list });
  }) o

  -- the record of each listed object has the length of its new list
  abbrev pub with_lens : List (ObjectRecord K) → List (Replacement X) → List (ObjectRecord K)
  with_lens records [] = records
  with_lens records (r ∷ rs) = with_lens (with_record records r.object
      (λ object_record. record object_record { len = length r.list.items })) rs

  -- the listed objects count as written, one after another
  abbrev pub after_write_all : Movement X K → List (Replacement X) → Movement X K
  after_write_all m [] = m
  after_write_all m (r ∷ rs) = after_write_all (after_write m r.object) rs

  -- each listed object has its new list and counts as written
  abbrev pub after_replace_all : Movement X K → List (Replacement X) → Movement X K
  after_replace_all m lists = after_write_all
      (record m { memory = replaced_all_in m.memory lists; records = with_lens m.records lists })
      lists

  -- object o has one more pin
  abbrev pub after_pin : Movement X K → ℕ → Movement X K
  after_pin m o = record m {
    records = with_record m.records o
        (λ object_record. record object_record { pins = object_record.pins + 1 });
  }

  -- object o has one pin fewer
  abbrev pub after_unpin : Movement X K → ℕ → Movement X K
  after_unpin m o = record m {
    records = with_record m.records o
        (λ object_record. record object_record { pins = object_record.pins - 1 });
  }

  -- object o is evicted; its newest far copy has this ticket
  abbrev pub after_leave : Movement X K → ℕ → K → Movement X K
  after_leave m o ticket = record m {
    memory = after_send_away m.memory o;
    records = with_record m.records o (λ object_record. record object_record
        { leavings = object_record.leavings + 1; ticket = Some ticket });
    order = without m.order o;
  }

  -- object o is local again, with this list
  abbrev pub after_arrive : Movement X K → ℕ → List X → Movement X K
  after_arrive m o list = record m { memory = after_bring m.memory o list; order = o ∷ m.order }
