use Rattle.std.proofs.Common.{ℕ, ◌≡◌, ◌-◌, ◌+◌, ◌++◌, [], ◌∷◌, true, ◌<◌, Some, length, get_or, take, drop, refl, sym, ap, subst, ◌∙◌, arith, length-take, length-drop}
use Rattle.std.specs.Prelude.{IsSomeAnd}
use Rattle.far_log.specs.RegionState.{segment_of, space_in, list_at}
use Rattle.far_log.specs.Effects.{list_or_none}
use Rattle.far_log.specs.declared.extents.Extent.{Extent}
use Rattle.far_log.specs.Storage.{extents_of, IsStored}
use Rattle.far_log.proofs.EffectsGathering.{list-is}
use Rattle.far_log.proofs.StoragePartChanges.{stored-push, used-le-end, shown-push}
use Rattle.far_log.proofs.RegionStateLaws.{part-there}
use Rattle.far_log.proofs.StorageSegments.{default_value, segment-is, segment-with, long-in, part-some, count-states, count-tables, states-set, kept-set}
use Rattle.far_log.proofs.segments.Segments.place_copy.Goals as goal

pub len-fill-requires : goal.len-fill-requires
len-fill-requires g c = omega (arith, c.requires.there, ap length c.self.view_is, count-states _ _ _ c.self.invariant, count-tables _ _ _ c.self.invariant)

pub index_mut-table-requires : goal.index_mut-table-requires
index_mut-table-requires g c = omega (arith, c.requires.there, ap length c.self.view_is, count-states _ _ _ c.self.invariant, c.self.inside.tables.ok.0)

pub push-requires-clause-linked : goal.push-requires-clause-linked
push-requires-clause-linked g c =
    let t = c.index_mut-table.result.now in
    let xs = get_or c.self.inside.stacks.stacks c.args.number [] in
    let h = segment-with c.self.inside.stacks.size c.self.inside.stacks.stacks c.self.inside.tables.items c.args.self.now c.args.number t c.self.invariant c.self.view_is c.requires.there c.index_mut-table.ensures.value in
    let left : space_in (segment_of c.args.self.now c.args.number) ≡ c.self.inside.stacks.size - length xs = omega (arith, h.fill, ap (λ s. s.size) h.shows) in
    h.kept.linked

pub push-requires-clause-ends : goal.push-requires-clause-ends
push-requires-clause-ends g c =
    let t = c.index_mut-table.result.now in
    let xs = get_or c.self.inside.stacks.stacks c.args.number [] in
    let h = segment-with c.self.inside.stacks.size c.self.inside.stacks.stacks c.self.inside.tables.items c.args.self.now c.args.number t c.self.invariant c.self.view_is c.requires.there c.index_mut-table.ensures.value in
    let left : space_in (segment_of c.args.self.now c.args.number) ≡ c.self.inside.stacks.size - length xs = omega (arith, h.fill, ap (λ s. s.size) h.shows) in
    h.kept.stored.live

pub push-requires-clause-few : goal.push-requires-clause-few
push-requires-clause-few g c =
    let t = c.index_mut-table.result.now in
    let xs = get_or c.self.inside.stacks.stacks c.args.number [] in
    let h = segment-with c.self.inside.stacks.size c.self.inside.stacks.stacks c.self.inside.tables.items c.args.self.now c.args.number t c.self.invariant c.self.view_is c.requires.there c.index_mut-table.ensures.value in
    let left : space_in (segment_of c.args.self.now c.args.number) ≡ c.self.inside.stacks.size - length xs = omega (arith, h.fill, ap (λ s. s.size) h.shows) in
    h.few

pub push-requires-clause-small : goal.push-requires-clause-small
push-requires-clause-small g c =
    let t = c.index_mut-table.result.now in
    let xs = get_or c.self.inside.stacks.stacks c.args.number [] in
    let h = segment-with c.self.inside.stacks.size c.self.inside.stacks.stacks c.self.inside.tables.items c.args.self.now c.args.number t c.self.invariant c.self.view_is c.requires.there c.index_mut-table.ensures.value in
    let left : space_in (segment_of c.args.self.now c.args.number) ≡ c.self.inside.stacks.size - length xs = omega (arith, h.fill, ap (λ s. s.size) h.shows) in
    omega (arith, c.len-fill.ensures.len, h.kept.stored.enough, h.kept.stored.small)

pub push-requires-clause-sum : goal.push-requires-clause-sum
push-requires-clause-sum g c =
    let t = c.index_mut-table.result.now in
    let xs = get_or c.self.inside.stacks.stacks c.args.number [] in
    let h = segment-with c.self.inside.stacks.size c.self.inside.stacks.stacks c.self.inside.tables.items c.args.self.now c.args.number t c.self.invariant c.self.view_is c.requires.there c.index_mut-table.ensures.value in
    let left : space_in (segment_of c.args.self.now c.args.number) ≡ c.self.inside.stacks.size - length xs = omega (arith, h.fill, ap (λ s. s.size) h.shows) in
    let lt = part-there c.args.self.now c.args.from c.requires.part in
    let ys = get_or c.self.inside.stacks.stacks c.args.from.segment [] in
    let source = segment-is c.self.inside.stacks.size c.self.inside.stacks.stacks c.self.inside.tables.items c.args.self.now c.args.from.segment c.self.invariant c.self.view_is lt in
    let u = get_or c.self.inside.tables.items c.args.from.segment default_value in
    let len = length c.part-len.result.now in
    let l = long-in ys (extents_of u.entries) c.args.from.offset len source.kept.stored.adjacent source.kept.stored.end (subst (λ r. IsSomeAnd (list_at r.parts c.args.from.offset) (λ list. length list ≡ len)) source.shows (rw c.part-len.ensures refl)) in
    let list : list_or_none (segment_of c.args.self.now c.args.from.segment).parts c.args.from.offset ≡ take len (drop c.args.from.offset ys) = list-is (segment_of c.args.self.now c.args.from.segment).parts c.args.from.offset (take len (drop c.args.from.offset ys)) (rw source.shows l.shows) in
    let count : length (take len (drop c.args.from.offset ys)) ≡ len = omega (arith, l.within, length-take len (drop c.args.from.offset ys), length-drop c.args.from.offset ys) in
    let some : 0 < len = omega (arith, part-some ys (extents_of u.entries) c.args.from.offset c.part-len.result.now source.kept.stored.adjacent source.kept.stored.end (subst (λ r. list_at r.parts c.args.from.offset ≡ Some c.part-len.result.now) source.shows c.part-len.ensures)) in
    let used = used-le-end xs 0 (extents_of t.entries) h.kept.stored.adjacent (omega (arith, h.kept.stored.end)) in
    omega (arith, left, used, h.kept.stored.sum, h.kept.stored.end, h.kept.stored.enough, h.kept.stored.small, c.requires.fits, ap length list, count)

pub push_from-requires-clause-source : goal.push_from-requires-clause-source
push_from-requires-clause-source g c =
    let lt = part-there c.args.self.now c.args.from c.requires.part in
    omega (arith, lt, ap length c.self.view_is, count-states _ _ _ c.self.invariant, count-tables _ _ _ c.self.invariant)

pub push_from-requires-clause-there : goal.push_from-requires-clause-there
push_from-requires-clause-there g c = omega (arith, c.requires.there, ap length c.self.view_is, count-states _ _ _ c.self.invariant, count-tables _ _ _ c.self.invariant)

pub push_from-requires-clause-some : goal.push_from-requires-clause-some
push_from-requires-clause-some g c =
    let lt = part-there c.args.self.now c.args.from c.requires.part in
    let ys = get_or c.self.inside.stacks.stacks c.args.from.segment [] in
    let source = segment-is c.self.inside.stacks.size c.self.inside.stacks.stacks c.self.inside.tables.items c.args.self.now c.args.from.segment c.self.invariant c.self.view_is lt in
    let u = get_or c.self.inside.tables.items c.args.from.segment default_value in
    let len = length c.part-len.result.now in
    let l = long-in ys (extents_of u.entries) c.args.from.offset len source.kept.stored.adjacent source.kept.stored.end (subst (λ r. IsSomeAnd (list_at r.parts c.args.from.offset) (λ list. length list ≡ len)) source.shows (rw c.part-len.ensures refl)) in
    let list : list_or_none (segment_of c.args.self.now c.args.from.segment).parts c.args.from.offset ≡ take len (drop c.args.from.offset ys) = list-is (segment_of c.args.self.now c.args.from.segment).parts c.args.from.offset (take len (drop c.args.from.offset ys)) (rw source.shows l.shows) in
    let count : length (take len (drop c.args.from.offset ys)) ≡ len = omega (arith, l.within, length-take len (drop c.args.from.offset ys), length-drop c.args.from.offset ys) in
    let some : 0 < len = omega (arith, part-some ys (extents_of u.entries) c.args.from.offset c.part-len.result.now source.kept.stored.adjacent source.kept.stored.end (subst (λ r. list_at r.parts c.args.from.offset ≡ Some c.part-len.result.now) source.shows c.part-len.ensures)) in
    some

pub push_from-requires-clause-within : goal.push_from-requires-clause-within
push_from-requires-clause-within g c =
    let lt = part-there c.args.self.now c.args.from c.requires.part in
    let ys = get_or c.self.inside.stacks.stacks c.args.from.segment [] in
    let source = segment-is c.self.inside.stacks.size c.self.inside.stacks.stacks c.self.inside.tables.items c.args.self.now c.args.from.segment c.self.invariant c.self.view_is lt in
    let u = get_or c.self.inside.tables.items c.args.from.segment default_value in
    let len = length c.part-len.result.now in
    let l = long-in ys (extents_of u.entries) c.args.from.offset len source.kept.stored.adjacent source.kept.stored.end (subst (λ r. IsSomeAnd (list_at r.parts c.args.from.offset) (λ list. length list ≡ len)) source.shows (rw c.part-len.ensures refl)) in
    let list : list_or_none (segment_of c.args.self.now c.args.from.segment).parts c.args.from.offset ≡ take len (drop c.args.from.offset ys) = list-is (segment_of c.args.self.now c.args.from.segment).parts c.args.from.offset (take len (drop c.args.from.offset ys)) (rw source.shows l.shows) in
    let count : length (take len (drop c.args.from.offset ys)) ≡ len = omega (arith, l.within, length-take len (drop c.args.from.offset ys), length-drop c.args.from.offset ys) in
    let some : 0 < len = omega (arith, part-some ys (extents_of u.entries) c.args.from.offset c.part-len.result.now source.kept.stored.adjacent source.kept.stored.end (subst (λ r. list_at r.parts c.args.from.offset ≡ Some c.part-len.result.now) source.shows c.part-len.ensures)) in
    l.within

pub push_from-requires-clause-enough : goal.push_from-requires-clause-enough
push_from-requires-clause-enough g c =
    let t = c.index_mut-table.result.now in
    let xs = get_or c.self.inside.stacks.stacks c.args.number [] in
    let h = segment-with c.self.inside.stacks.size c.self.inside.stacks.stacks c.self.inside.tables.items c.args.self.now c.args.number t c.self.invariant c.self.view_is c.requires.there c.index_mut-table.ensures.value in
    let left : space_in (segment_of c.args.self.now c.args.number) ≡ c.self.inside.stacks.size - length xs = omega (arith, h.fill, ap (λ s. s.size) h.shows) in
    let lt = part-there c.args.self.now c.args.from c.requires.part in
    let ys = get_or c.self.inside.stacks.stacks c.args.from.segment [] in
    let source = segment-is c.self.inside.stacks.size c.self.inside.stacks.stacks c.self.inside.tables.items c.args.self.now c.args.from.segment c.self.invariant c.self.view_is lt in
    let u = get_or c.self.inside.tables.items c.args.from.segment default_value in
    let len = length c.part-len.result.now in
    let l = long-in ys (extents_of u.entries) c.args.from.offset len source.kept.stored.adjacent source.kept.stored.end (subst (λ r. IsSomeAnd (list_at r.parts c.args.from.offset) (λ list. length list ≡ len)) source.shows (rw c.part-len.ensures refl)) in
    let list : list_or_none (segment_of c.args.self.now c.args.from.segment).parts c.args.from.offset ≡ take len (drop c.args.from.offset ys) = list-is (segment_of c.args.self.now c.args.from.segment).parts c.args.from.offset (take len (drop c.args.from.offset ys)) (rw source.shows l.shows) in
    let count : length (take len (drop c.args.from.offset ys)) ≡ len = omega (arith, l.within, length-take len (drop c.args.from.offset ys), length-drop c.args.from.offset ys) in
    let some : 0 < len = omega (arith, part-some ys (extents_of u.entries) c.args.from.offset c.part-len.result.now source.kept.stored.adjacent source.kept.stored.end (subst (λ r. list_at r.parts c.args.from.offset ≡ Some c.part-len.result.now) source.shows c.part-len.ensures)) in
    omega (arith, left, c.requires.fits, h.kept.stored.enough, ap length list, count, some)

pub invariant_of-self-2 : goal.invariant_of-self-2
invariant_of-self-2 g c =
    let t = c.index_mut-table.result.now in
    let xs = get_or c.self.inside.stacks.stacks c.args.number [] in
    let h = segment-with c.self.inside.stacks.size c.self.inside.stacks.stacks c.self.inside.tables.items c.args.self.now c.args.number t c.self.invariant c.self.view_is c.requires.there c.index_mut-table.ensures.value in
    let left : space_in (segment_of c.args.self.now c.args.number) ≡ c.self.inside.stacks.size - length xs = omega (arith, h.fill, ap (λ s. s.size) h.shows) in
    let lt = part-there c.args.self.now c.args.from c.requires.part in
    let ys = get_or c.self.inside.stacks.stacks c.args.from.segment [] in
    let source = segment-is c.self.inside.stacks.size c.self.inside.stacks.stacks c.self.inside.tables.items c.args.self.now c.args.from.segment c.self.invariant c.self.view_is lt in
    let u = get_or c.self.inside.tables.items c.args.from.segment default_value in
    let len = length c.part-len.result.now in
    let l = long-in ys (extents_of u.entries) c.args.from.offset len source.kept.stored.adjacent source.kept.stored.end (subst (λ r. IsSomeAnd (list_at r.parts c.args.from.offset) (λ list. length list ≡ len)) source.shows (rw c.part-len.ensures refl)) in
    let list : list_or_none (segment_of c.args.self.now c.args.from.segment).parts c.args.from.offset ≡ take len (drop c.args.from.offset ys) = list-is (segment_of c.args.self.now c.args.from.segment).parts c.args.from.offset (take len (drop c.args.from.offset ys)) (rw source.shows l.shows) in
    let count : length (take len (drop c.args.from.offset ys)) ≡ len = omega (arith, l.within, length-take len (drop c.args.from.offset ys), length-drop c.args.from.offset ys) in
    let some : 0 < len = omega (arith, part-some ys (extents_of u.entries) c.args.from.offset c.part-len.result.now source.kept.stored.adjacent source.kept.stored.end (subst (λ r. list_at r.parts c.args.from.offset ≡ Some c.part-len.result.now) source.shows c.part-len.ensures)) in
    let copy = take len (drop c.args.from.offset ys) in
    let extents = extents_of t.entries in
    let one = λ (n : ℕ). extents ++ (let u : Extent = record { offset = c.len-fill.result; len = n; live = true } in u) ∷ [] in
    let extent : Extent = record { offset = c.len-fill.result; len = length copy; live = true } in
    let stored : IsStored (xs ++ copy) (one len) (t.used + len) c.self.inside.stacks.size = subst (λ n. IsStored (xs ++ copy) (one n) (t.used + n) c.self.inside.stacks.size) count
    (stored-push xs copy extents extent _ _ h.kept.stored (omega (arith, count, some)) (omega (arith, left, c.requires.fits, ap length list)) (rw c.len-fill.ensures.len refl)) in
    rw c.push_from.ensures (kept-set c.self.inside.stacks.size c.self.inside.stacks.stacks c.self.inside.tables.items c.args.number (xs ++ copy) c.push.new.self c.self.invariant record {
      linked = c.in_ok-offset.ensures.linked;
      stored = rw (c.in_ok-offset.ensures.extents, c.in_ok-offset.ensures.used) stored;
    })

pub returns-clause-placed : goal.returns-clause-placed
returns-clause-placed g c =
    let t = c.index_mut-table.result.now in
    let xs = get_or c.self.inside.stacks.stacks c.args.number [] in
    let h = segment-with c.self.inside.stacks.size c.self.inside.stacks.stacks c.self.inside.tables.items c.args.self.now c.args.number t c.self.invariant c.self.view_is c.requires.there c.index_mut-table.ensures.value in
    let left : space_in (segment_of c.args.self.now c.args.number) ≡ c.self.inside.stacks.size - length xs = omega (arith, h.fill, ap (λ s. s.size) h.shows) in
    let lt = part-there c.args.self.now c.args.from c.requires.part in
    let ys = get_or c.self.inside.stacks.stacks c.args.from.segment [] in
    let source = segment-is c.self.inside.stacks.size c.self.inside.stacks.stacks c.self.inside.tables.items c.args.self.now c.args.from.segment c.self.invariant c.self.view_is lt in
    let u = get_or c.self.inside.tables.items c.args.from.segment default_value in
    let len = length c.part-len.result.now in
    let l = long-in ys (extents_of u.entries) c.args.from.offset len source.kept.stored.adjacent source.kept.stored.end (subst (λ r. IsSomeAnd (list_at r.parts c.args.from.offset) (λ list. length list ≡ len)) source.shows (rw c.part-len.ensures refl)) in
    let list : list_or_none (segment_of c.args.self.now c.args.from.segment).parts c.args.from.offset ≡ take len (drop c.args.from.offset ys) = list-is (segment_of c.args.self.now c.args.from.segment).parts c.args.from.offset (take len (drop c.args.from.offset ys)) (rw source.shows l.shows) in
    let count : length (take len (drop c.args.from.offset ys)) ≡ len = omega (arith, l.within, length-take len (drop c.args.from.offset ys), length-drop c.args.from.offset ys) in
    let some : 0 < len = omega (arith, part-some ys (extents_of u.entries) c.args.from.offset c.part-len.result.now source.kept.stored.adjacent source.kept.stored.end (subst (λ r. list_at r.parts c.args.from.offset ≡ Some c.part-len.result.now) source.shows c.part-len.ensures)) in
    let copy = take len (drop c.args.from.offset ys) in
    rw (c.push_from.ensures, states-set c.self.inside.stacks.size c.self.inside.stacks.stacks c.self.inside.tables.items c.args.number (xs ++ copy) c.push.new.self, c.in_ok-offset.ensures.extents, list, c.self.view_is, h.shows)
    (let extent : Extent = record { offset = c.len-fill.result; len = len; live = true } in rw (shown-push xs copy (extents_of t.entries) extent t.used c.self.inside.stacks.size h.kept.stored (rw (count, c.len-fill.ensures.len) refl)) refl)

pub returns-clause-offset : goal.returns-clause-offset
returns-clause-offset g c =
    let t = c.index_mut-table.result.now in
    let xs = get_or c.self.inside.stacks.stacks c.args.number [] in
    let h = segment-with c.self.inside.stacks.size c.self.inside.stacks.stacks c.self.inside.tables.items c.args.self.now c.args.number t c.self.invariant c.self.view_is c.requires.there c.index_mut-table.ensures.value in
    let left : space_in (segment_of c.args.self.now c.args.number) ≡ c.self.inside.stacks.size - length xs = omega (arith, h.fill, ap (λ s. s.size) h.shows) in
    c.in_ok-offset.ensures.offset ∙ c.len-fill.ensures.len ∙ sym h.fill
