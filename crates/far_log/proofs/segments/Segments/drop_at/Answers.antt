use Rattle.std.proofs.Common.{◌≡◌, ◌-◌, [], IsSome, Some, length, get_or, take, refl, ap, subst, ◌∙◌, arith}
use Rattle.std.specs.Prelude.{slice_get}
use Rattle.std.proofs.lemmas.List.{length-map}
use Rattle.far_log.specs.declared.part_entry.PartEntry.{PartEntry}
use Rattle.far_log.specs.declared.table.Table.{Table}
use Rattle.far_log.specs.RegionState.{list_at}
use Rattle.far_log.specs.Storage.{extents_of, links_of, extents_end, emptied_at}
use Rattle.far_log.proofs.StorageEntries.{extent-is, extents-emptied, links-unchanged}
use Rattle.far_log.proofs.StorageExtents.{extent-of, extent-in-table, extent-in-some, extent-is-live}
use Rattle.far_log.proofs.StoragePartDrops.{dropped, stored-dropped, shown-dropped, used-emptied}
use Rattle.far_log.proofs.RegionStateLaws.{part-there}
use Rattle.far_log.proofs.StorageSegments.{segment-with, count-states, count-tables, states-set, kept-set}
use Rattle.far_log.proofs.segments.Segments.drop_at.Goals as goal

pub index_mut-table-requires : goal.index_mut-table-requires
index_mut-table-requires g c =
    let lt = part-there c.args.self.now c.args.at c.requires in
    omega (arith, lt, ap length c.self.view_is, count-states _ _ _ c.self.invariant, c.self.inside.tables.ok.0)

pub number_at-number-requires-clause-adjacent : goal.number_at-number-requires-clause-adjacent
number_at-number-requires-clause-adjacent g c =
    let lt = part-there c.args.self.now c.args.at c.requires in
    let t = c.index_mut-table.result.now in
    let xs = get_or c.self.inside.stacks.stacks c.args.at.segment [] in
    let h = segment-with c.self.inside.stacks.size c.self.inside.stacks.stacks c.self.inside.tables.items c.args.self.now c.args.at.segment t c.self.invariant c.self.view_is lt c.index_mut-table.ensures.value in
    let there = subst (λ r. IsSome (list_at r.parts c.args.at.offset)) h.shows c.requires in
    h.kept.stored.adjacent

pub number_at-number-requires-clause-some : goal.number_at-number-requires-clause-some
number_at-number-requires-clause-some g c =
    let lt = part-there c.args.self.now c.args.at c.requires in
    let t = c.index_mut-table.result.now in
    let xs = get_or c.self.inside.stacks.stacks c.args.at.segment [] in
    let h = segment-with c.self.inside.stacks.size c.self.inside.stacks.stacks c.self.inside.tables.items c.args.self.now c.args.at.segment t c.self.invariant c.self.view_is lt c.index_mut-table.ensures.value in
    let there = subst (λ r. IsSome (list_at r.parts c.args.at.offset)) h.shows c.requires in
    let count = length-map t.entries (λ (u : PartEntry). u.extent) in
    omega (arith, extent-in-some xs (extents_of t.entries) c.args.at.offset there, count)

pub unlink-left-requires-clause-linked : goal.unlink-left-requires-clause-linked
unlink-left-requires-clause-linked g c =
    let lt = part-there c.args.self.now c.args.at c.requires in
    let t = c.index_mut-table.result.now in
    let xs = get_or c.self.inside.stacks.stacks c.args.at.segment [] in
    let h = segment-with c.self.inside.stacks.size c.self.inside.stacks.stacks c.self.inside.tables.items c.args.self.now c.args.at.segment t c.self.invariant c.self.view_is lt c.index_mut-table.ensures.value in
    let there = subst (λ r. IsSome (list_at r.parts c.args.at.offset)) h.shows c.requires in
    h.kept.linked

pub unlink-left-requires-clause-ends : goal.unlink-left-requires-clause-ends
unlink-left-requires-clause-ends g c =
    let lt = part-there c.args.self.now c.args.at c.requires in
    let t = c.index_mut-table.result.now in
    let xs = get_or c.self.inside.stacks.stacks c.args.at.segment [] in
    let h = segment-with c.self.inside.stacks.size c.self.inside.stacks.stacks c.self.inside.tables.items c.args.self.now c.args.at.segment t c.self.invariant c.self.view_is lt c.index_mut-table.ensures.value in
    let there = subst (λ r. IsSome (list_at r.parts c.args.at.offset)) h.shows c.requires in
    h.kept.stored.live

pub unlink-left-requires-clause-few : goal.unlink-left-requires-clause-few
unlink-left-requires-clause-few g c =
    let lt = part-there c.args.self.now c.args.at c.requires in
    let t = c.index_mut-table.result.now in
    let xs = get_or c.self.inside.stacks.stacks c.args.at.segment [] in
    let h = segment-with c.self.inside.stacks.size c.self.inside.stacks.stacks c.self.inside.tables.items c.args.self.now c.args.at.segment t c.self.invariant c.self.view_is lt c.index_mut-table.ensures.value in
    let there = subst (λ r. IsSome (list_at r.parts c.args.at.offset)) h.shows c.requires in
    h.few

pub unlink-left-requires-clause-there : goal.unlink-left-requires-clause-there
unlink-left-requires-clause-there g c =
    let lt = part-there c.args.self.now c.args.at c.requires in
    let t = c.index_mut-table.result.now in
    let xs = get_or c.self.inside.stacks.stacks c.args.at.segment [] in
    let h = segment-with c.self.inside.stacks.size c.self.inside.stacks.stacks c.self.inside.tables.items c.args.self.now c.args.at.segment t c.self.invariant c.self.view_is lt c.index_mut-table.ensures.value in
    let there = subst (λ r. IsSome (list_at r.parts c.args.at.offset)) h.shows c.requires in
    extent-is-live xs (extents_of t.entries) c.args.at.offset c.number_at-number.result there c.number_at-number.ensures

pub get-entry-requires : goal.get-entry-requires
get-entry-requires g c =
    let lt = part-there c.args.self.now c.args.at c.requires in
    let t = c.index_mut-table.result.now in
    let xs = get_or c.self.inside.stacks.stacks c.args.at.segment [] in
    let h = segment-with c.self.inside.stacks.size c.self.inside.stacks.stacks c.self.inside.tables.items c.args.self.now c.args.at.segment t c.self.invariant c.self.view_is lt c.index_mut-table.ensures.value in
    let there = subst (λ r. IsSome (list_at r.parts c.args.at.offset)) h.shows c.requires in
    let within = extent-in-table xs (extents_of t.entries) c.args.at.offset c.number_at-number.result there c.number_at-number.ensures in
    omega (arith, within, length-map c.unlink-left.new.table (λ (u : PartEntry). u.extent), ap length c.unlink-left.ensures.extents)

pub set-requires : goal.set-requires
set-requires g c =
    let lt = part-there c.args.self.now c.args.at c.requires in
    let t = c.index_mut-table.result.now in
    let xs = get_or c.self.inside.stacks.stacks c.args.at.segment [] in
    let h = segment-with c.self.inside.stacks.size c.self.inside.stacks.stacks c.self.inside.tables.items c.args.self.now c.args.at.segment t c.self.invariant c.self.view_is lt c.index_mut-table.ensures.value in
    let there = subst (λ r. IsSome (list_at r.parts c.args.at.offset)) h.shows c.requires in
    let within = extent-in-table xs (extents_of t.entries) c.args.at.offset c.number_at-number.result there c.number_at-number.ensures in
    omega (arith, within, length-map c.unlink-left.new.table (λ (u : PartEntry). u.extent), ap length c.unlink-left.ensures.extents)

pub overflow_sub-table : goal.overflow_sub-table
overflow_sub-table g c =
    let lt = part-there c.args.self.now c.args.at c.requires in
    let t = c.index_mut-table.result.now in
    let xs = get_or c.self.inside.stacks.stacks c.args.at.segment [] in
    let h = segment-with c.self.inside.stacks.size c.self.inside.stacks.stacks c.self.inside.tables.items c.args.self.now c.args.at.segment t c.self.invariant c.self.view_is lt c.index_mut-table.ensures.value in
    let there = subst (λ r. IsSome (list_at r.parts c.args.at.offset)) h.shows c.requires in
    let here : slice_get (extents_of t.entries) c.number_at-number.result ≡ Some c.get-entry.result.extent = rw c.unlink-left.ensures.extents at (extent-is c.unlink-left.new.table c.number_at-number.result c.get-entry.result c.get-entry.ensures) in
    let extent = extent-of xs (extents_of t.entries) c.args.at.offset c.number_at-number.result c.get-entry.result.extent there c.number_at-number.ensures here in
    omega (arith, used-emptied xs 0 (extents_of t.entries) c.number_at-number.result c.get-entry.result.extent h.kept.stored.adjacent (omega (arith, h.kept.stored.end)) here extent.live, h.kept.stored.sum)

pub end_of-end-requires-clause-adjacent : goal.end_of-end-requires-clause-adjacent
end_of-end-requires-clause-adjacent g c =
    let lt = part-there c.args.self.now c.args.at c.requires in
    let t = c.index_mut-table.result.now in
    let xs = get_or c.self.inside.stacks.stacks c.args.at.segment [] in
    let h = segment-with c.self.inside.stacks.size c.self.inside.stacks.stacks c.self.inside.tables.items c.args.self.now c.args.at.segment t c.self.invariant c.self.view_is lt c.index_mut-table.ensures.value in
    let there = subst (λ r. IsSome (list_at r.parts c.args.at.offset)) h.shows c.requires in
    let here : slice_get (extents_of t.entries) c.number_at-number.result ≡ Some c.get-entry.result.extent = rw c.unlink-left.ensures.extents at (extent-is c.unlink-left.new.table c.number_at-number.result c.get-entry.result c.get-entry.ensures) in
    let extent = extent-of xs (extents_of t.entries) c.args.at.offset c.number_at-number.result c.get-entry.result.extent there c.number_at-number.ensures here in
    let gone = dropped xs (extents_of t.entries) _ _ c.args.at.offset c.number_at-number.result c.unlink-left.result c.get-entry.result.extent h.kept.stored extent.here extent.live extent.begins c.unlink-left.ensures.kept in
    let kept : extents_of c.truncate.new.self ≡ take c.unlink-left.result (emptied_at (extents_of t.entries) c.number_at-number.result) = ap extents_of (c.truncate.ensures ∙ ap (take c.unlink-left.result) c.set.ensures) ∙ extents-emptied c.unlink-left.new.table c.number_at-number.result c.unlink-left.result c.get-entry.result c.get-entry.ensures ∙ ap (λ ss. take c.unlink-left.result (emptied_at ss c.number_at-number.result)) c.unlink-left.ensures.extents in
    rw kept gone.adjacent

pub end_of-end-requires-clause-fits : goal.end_of-end-requires-clause-fits
end_of-end-requires-clause-fits g c =
    let lt = part-there c.args.self.now c.args.at c.requires in
    let t = c.index_mut-table.result.now in
    let xs = get_or c.self.inside.stacks.stacks c.args.at.segment [] in
    let h = segment-with c.self.inside.stacks.size c.self.inside.stacks.stacks c.self.inside.tables.items c.args.self.now c.args.at.segment t c.self.invariant c.self.view_is lt c.index_mut-table.ensures.value in
    let there = subst (λ r. IsSome (list_at r.parts c.args.at.offset)) h.shows c.requires in
    let here : slice_get (extents_of t.entries) c.number_at-number.result ≡ Some c.get-entry.result.extent = rw c.unlink-left.ensures.extents at (extent-is c.unlink-left.new.table c.number_at-number.result c.get-entry.result c.get-entry.ensures) in
    let extent = extent-of xs (extents_of t.entries) c.args.at.offset c.number_at-number.result c.get-entry.result.extent there c.number_at-number.ensures here in
    let gone = dropped xs (extents_of t.entries) _ _ c.args.at.offset c.number_at-number.result c.unlink-left.result c.get-entry.result.extent h.kept.stored extent.here extent.live extent.begins c.unlink-left.ensures.kept in
    let kept : extents_of c.truncate.new.self ≡ take c.unlink-left.result (emptied_at (extents_of t.entries) c.number_at-number.result) = ap extents_of (c.truncate.ensures ∙ ap (take c.unlink-left.result) c.set.ensures) ∙ extents-emptied c.unlink-left.new.table c.number_at-number.result c.unlink-left.result c.get-entry.result c.get-entry.ensures ∙ ap (λ ss. take c.unlink-left.result (emptied_at ss c.number_at-number.result)) c.unlink-left.ensures.extents in
    omega (arith, ap (extents_end 0) kept, gone.within, h.kept.stored.enough, h.kept.stored.small)

pub truncate-requires-2-clause-there : goal.truncate-requires-2-clause-there
truncate-requires-2-clause-there g c =
    let lt = part-there c.args.self.now c.args.at c.requires in
    omega (arith, lt, ap length c.self.view_is, count-states _ _ _ c.self.invariant, count-tables _ _ _ c.self.invariant)

pub truncate-requires-2-clause-shorter : goal.truncate-requires-2-clause-shorter
truncate-requires-2-clause-shorter g c =
    let lt = part-there c.args.self.now c.args.at c.requires in
    let t = c.index_mut-table.result.now in
    let xs = get_or c.self.inside.stacks.stacks c.args.at.segment [] in
    let h = segment-with c.self.inside.stacks.size c.self.inside.stacks.stacks c.self.inside.tables.items c.args.self.now c.args.at.segment t c.self.invariant c.self.view_is lt c.index_mut-table.ensures.value in
    let there = subst (λ r. IsSome (list_at r.parts c.args.at.offset)) h.shows c.requires in
    let here : slice_get (extents_of t.entries) c.number_at-number.result ≡ Some c.get-entry.result.extent = rw c.unlink-left.ensures.extents at (extent-is c.unlink-left.new.table c.number_at-number.result c.get-entry.result c.get-entry.ensures) in
    let extent = extent-of xs (extents_of t.entries) c.args.at.offset c.number_at-number.result c.get-entry.result.extent there c.number_at-number.ensures here in
    let gone = dropped xs (extents_of t.entries) _ _ c.args.at.offset c.number_at-number.result c.unlink-left.result c.get-entry.result.extent h.kept.stored extent.here extent.live extent.begins c.unlink-left.ensures.kept in
    let kept : extents_of c.truncate.new.self ≡ take c.unlink-left.result (emptied_at (extents_of t.entries) c.number_at-number.result) = ap extents_of (c.truncate.ensures ∙ ap (take c.unlink-left.result) c.set.ensures) ∙ extents-emptied c.unlink-left.new.table c.number_at-number.result c.unlink-left.result c.get-entry.result c.get-entry.ensures ∙ ap (λ ss. take c.unlink-left.result (emptied_at ss c.number_at-number.result)) c.unlink-left.ensures.extents in
    let end : c.end_of-end.result ≡ extents_end 0 (take c.unlink-left.result (emptied_at (extents_of t.entries) c.number_at-number.result)) = c.end_of-end.ensures ∙ ap (extents_end 0) kept in
    omega (arith, end, gone.within)

pub invariant_of-self : goal.invariant_of-self
invariant_of-self g c =
    let lt = part-there c.args.self.now c.args.at c.requires in
    let t = c.index_mut-table.result.now in
    let xs = get_or c.self.inside.stacks.stacks c.args.at.segment [] in
    let h = segment-with c.self.inside.stacks.size c.self.inside.stacks.stacks c.self.inside.tables.items c.args.self.now c.args.at.segment t c.self.invariant c.self.view_is lt c.index_mut-table.ensures.value in
    let there = subst (λ r. IsSome (list_at r.parts c.args.at.offset)) h.shows c.requires in
    let here : slice_get (extents_of t.entries) c.number_at-number.result ≡ Some c.get-entry.result.extent = rw c.unlink-left.ensures.extents at (extent-is c.unlink-left.new.table c.number_at-number.result c.get-entry.result c.get-entry.ensures) in
    let extent = extent-of xs (extents_of t.entries) c.args.at.offset c.number_at-number.result c.get-entry.result.extent there c.number_at-number.ensures here in
    let gone = dropped xs (extents_of t.entries) _ _ c.args.at.offset c.number_at-number.result c.unlink-left.result c.get-entry.result.extent h.kept.stored extent.here extent.live extent.begins c.unlink-left.ensures.kept in
    let kept : extents_of c.truncate.new.self ≡ take c.unlink-left.result (emptied_at (extents_of t.entries) c.number_at-number.result) = ap extents_of (c.truncate.ensures ∙ ap (take c.unlink-left.result) c.set.ensures) ∙ extents-emptied c.unlink-left.new.table c.number_at-number.result c.unlink-left.result c.get-entry.result c.get-entry.ensures ∙ ap (λ ss. take c.unlink-left.result (emptied_at ss c.number_at-number.result)) c.unlink-left.ensures.extents in
    let end : c.end_of-end.result ≡ extents_end 0 (take c.unlink-left.result (emptied_at (extents_of t.entries) c.number_at-number.result)) = c.end_of-end.ensures ∙ ap (extents_end 0) kept in
    let links : links_of c.truncate.new.self ≡ take c.unlink-left.result (links_of c.unlink-left.new.table) = ap links_of (c.truncate.ensures ∙ ap (take c.unlink-left.result) c.set.ensures) ∙ links-unchanged c.unlink-left.new.table c.number_at-number.result c.unlink-left.result c.get-entry.result _ c.get-entry.ensures in
    let now : Table = record { entries = c.truncate.new.self; used = t.used - c.get-entry.result.extent.len } in
    rw c.truncate-2.ensures (kept-set c.self.inside.stacks.size c.self.inside.stacks.stacks c.self.inside.tables.items c.args.at.segment (take c.end_of-end.result xs) now c.self.invariant record {
      stored = rw kept (stored-dropped xs (extents_of t.entries) _ _ c.args.at.offset c.end_of-end.result c.get-entry.result.extent _ h.kept.stored gone c.unlink-left.ensures.last end);
      linked = rw (kept, links) c.unlink-left.ensures.linked;
    })

pub returns : goal.returns
returns g c =
    let lt = part-there c.args.self.now c.args.at c.requires in
    let t = c.index_mut-table.result.now in
    let xs = get_or c.self.inside.stacks.stacks c.args.at.segment [] in
    let h = segment-with c.self.inside.stacks.size c.self.inside.stacks.stacks c.self.inside.tables.items c.args.self.now c.args.at.segment t c.self.invariant c.self.view_is lt c.index_mut-table.ensures.value in
    let there = subst (λ r. IsSome (list_at r.parts c.args.at.offset)) h.shows c.requires in
    let here : slice_get (extents_of t.entries) c.number_at-number.result ≡ Some c.get-entry.result.extent = rw c.unlink-left.ensures.extents at (extent-is c.unlink-left.new.table c.number_at-number.result c.get-entry.result c.get-entry.ensures) in
    let extent = extent-of xs (extents_of t.entries) c.args.at.offset c.number_at-number.result c.get-entry.result.extent there c.number_at-number.ensures here in
    let gone = dropped xs (extents_of t.entries) _ _ c.args.at.offset c.number_at-number.result c.unlink-left.result c.get-entry.result.extent h.kept.stored extent.here extent.live extent.begins c.unlink-left.ensures.kept in
    let kept : extents_of c.truncate.new.self ≡ take c.unlink-left.result (emptied_at (extents_of t.entries) c.number_at-number.result) = ap extents_of (c.truncate.ensures ∙ ap (take c.unlink-left.result) c.set.ensures) ∙ extents-emptied c.unlink-left.new.table c.number_at-number.result c.unlink-left.result c.get-entry.result c.get-entry.ensures ∙ ap (λ ss. take c.unlink-left.result (emptied_at ss c.number_at-number.result)) c.unlink-left.ensures.extents in
    let end : c.end_of-end.result ≡ extents_end 0 (take c.unlink-left.result (emptied_at (extents_of t.entries) c.number_at-number.result)) = c.end_of-end.ensures ∙ ap (extents_end 0) kept in
    rw (c.truncate-2.ensures, states-set c.self.inside.stacks.size c.self.inside.stacks.stacks c.self.inside.tables.items c.args.at.segment (take c.end_of-end.result xs), kept, c.self.view_is, h.shows)
    (rw (shown-dropped xs (extents_of t.entries) _ c.args.at.offset c.end_of-end.result c.get-entry.result.extent _ gone end) refl)
