use Rattle.std.proofs.Common.{◌∙◌, subst, sym, arith, refl}
use Rattle.std.proofs.lemmas.Option.{slice_get_read}
use Rattle.far_aggregates.specs.Accumulators.{Change}
use Rattle.far_aggregates.specs.LeavingOut.{IsLeftOut}
use Rattle.far_aggregates.proofs.ListLaws.{length-written}
use Rattle.far_aggregates.proofs.LeavingOutLaws.{left_out-more, rest-more}
use Rattle.far_aggregates.proofs.leaving_out.leave_out_each.Goals as goal

pub loop-i-preserved : goal.loop-i-preserved
loop-i-preserved c =
    let i = c.loop-i.i in
    let now = c.loop-i.to_retract in
    let was = c.loop-i.invariant in
    let delta = c.index-deltas-i.result in
    let applied = slice_get_read c.args.deltas.now _ i delta refl (omega arith) c.index-deltas-i.is in
    let retracts = slice_get_read now _ i c.index-to_retract-i.result refl (omega arith) c.index-to_retract-i.is in
    let out = subst (λ (a : Change). IsLeftOut delta a c.leave_out_one.new.to_retract) (sym c.index-to_retract-i.is) c.leave_out_one.ensures in (
      length-written now i c.leave_out_one.new.to_retract ∙ was.0,
      left_out-more i c.args.deltas.now c.args.to_retract.now now delta c.index-to_retract-i.result c.leave_out_one.new.to_retract applied retracts was.2 out was.1,
      rest-more i c.args.deltas.now c.args.to_retract.now now delta c.index-to_retract-i.result c.leave_out_one.new.to_retract applied retracts was.2 out was.1,
    )
