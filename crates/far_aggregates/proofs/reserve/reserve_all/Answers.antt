use Rattle.std.proofs.Common.{sym, ap, ◌∙◌, subst, arith, refl}
use Rattle.std.proofs.lemmas.Option.{slice_get_read}
use Rattle.far_aggregates.specs.Accumulators.{registered_in, KeepsEntry}
use Rattle.far_aggregates.specs.Reserve.{entry_after_reserve, IsReserved}
use Rattle.far_aggregates.proofs.ListLaws.{all-set, all-get, all-take_set, map-set_like}
use Rattle.far_aggregates.proofs.ReserveLaws.{reserved-registered, reserved-is, reserved-keeps}
use Rattle.far_aggregates.proofs.reserve.reserve_all.Goals as goal

pub loop-i-preserved : goal.loop-i-preserved
loop-i-preserved c =
    let here = slice_get_read c.loop-i.registry _ c.loop-i.i c.index-registry-i.result refl (omega arith) c.index-registry-i.is in
    let is = c.reserve_one.ensures ∙ ap (entry_after_reserve c.args.group) (sym c.index-registry-i.is) in
    record {
      reserved = all-take_set (IsReserved c.args.group) c.loop-i.i c.loop-i.registry c.reserve_one.new.entry (omega arith) c.loop-i.invariant.reserved (subst (IsReserved c.args.group) (sym is) (reserved-is c.args.group c.index-registry-i.result));
      registered = map-set_like registered_in c.loop-i.registry c.loop-i.i c.index-registry-i.result c.reserve_one.new.entry here (ap registered_in is ∙ reserved-registered c.args.group c.index-registry-i.result) ∙ c.loop-i.invariant.registered;
      kept = λ size places h.
          let kept = c.loop-i.invariant.kept size places h in
          all-set (KeepsEntry size places) c.loop-i.registry c.loop-i.i c.reserve_one.new.entry kept
          (subst (KeepsEntry size places) (sym is) (reserved-keeps c.args.group size places c.index-registry-i.result (all-get (KeepsEntry size places) c.loop-i.registry c.loop-i.i c.index-registry-i.result kept here)));
    }
