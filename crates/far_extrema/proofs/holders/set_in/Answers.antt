use Rattle.std.proofs.Common.{◌∙◌, refl, IsSome, sym, ap, subst, Some, None, cond, true}
use Rattle.far_extrema.specs.Holders.{min_max_in, reserved_in, IsPut, HaveSameReserved}
use Rattle.far_extrema.proofs.HoldersLaws.{put-set}
use Rattle.far_extrema.proofs.HoldersReserve.{reserved-insert}
use Rattle.far_extrema.proofs.holders.set_in.Goals as goal

pub put-requires : goal.put-requires
put-requires c = λ e. c.requires (ap (λ o. min_max_in o c.args.group) (sym c.in-Some.ensures.value) ∙ e)

pub unreachable-requires : goal.unreachable-requires
unreachable-requires c = c.requires (ap (λ o. min_max_in o c.args.group) (sym c.in-None.ensures.value))

pub returns : goal.returns
returns c =
    let there = subst IsSome c.in-Some.ensures.value refl in
    let old = c.args.holders.now in
    let previous = sym c.in-Some.ensures.value in
    let written = c.find_mut.follows.holds c.put.new.self there in
    record {
      min_maxes = subst (λ m. IsPut old c.args.group c.args.key.now (Some c.args.min_max) m) (sym written)
          (put-set old c.args.key.now c.in-Some.holder.now c.put.new.self c.args.group (Some c.args.min_max) previous c.put.ensures.min_maxes);
      reserved = subst (HaveSameReserved old) (sym written)
          (reserved-insert old c.args.key.now c.put.new.self (ap (λ b. cond b (Some true) None) c.put.ensures.reserved ∙ sym (ap reserved_in previous)));
    }
