use Rattle.std.proofs.Common.{◌≡◌, ◌+◌, ◌*◌, ◌/◌, ◌<◌, ◌≤◌, ℕ, List, ◌∷◌, ap, subst, sym, ◌∙◌, arith}
use Rattle.far_table.specs.State.{LiveState}
use Rattle.far_columns.specs.Pieces.{overlapped_groups}
use Rattle.far_frame.proofs.LendingAccesses.{IsObserving, observing-all, observing-more, overlapped-next, overlapped-none}
use Rattle.far_frame.proofs.frame.Frame.record_accesses.Goals as goal

pub loop-place-preserved : goal.loop-place-preserved
loop-place-preserved g c =
    let old = c.args.self.now in
    let size = old.rows.size in
    let place = c.loop-place.place in
    let to = c.args.to in
    let all = overlapped_groups size c.args.from to in
    let n = c.size-size.result in
    let same_length : n ≡ size = c.size-size.ensures.rows ∙ ap (λ (s : LiveState g.row.S-Ticket.Denot). s.rows.size) c.scope.ensures in
    let some : 0 < size = omega (arith, same_length, c.size-size.ensures.some) in
    let more : place < to = omega (arith, c.loop-place-test.true) in
    let next : overlapped_groups size place to ≡ place / n ∷ overlapped_groups size ((place / n + 1) * n) to = subst (λ (m : ℕ). overlapped_groups size place to ≡ place / m ∷ overlapped_groups size ((place / m + 1) * m) to) (sym same_length) (overlapped-next size place to some more) in
    record {
      observing = observing-more c.args.column all old (place / n) (overlapped_groups size ((place / n + 1) * n) to) c.loop-place.self c.record_access.new.self
          (subst (λ (left : List ℕ). IsObserving c.args.column all left old c.loop-place.self) next c.loop-place.invariant.observing) c.record_access.ensures.accesses;
      here = λ id at. c.record_access.ensures.here id (c.loop-place.invariant.here id at);
    }

pub returns-clause-accesses : goal.returns-clause-accesses
returns-clause-accesses g c =
    let old = c.args.self.now in
    let size = old.rows.size in
    let all = overlapped_groups size c.args.from c.args.to in
    let past : c.args.to ≤ c.loop-place.place = omega (arith, c.loop-place-test.false) in
    observing-all c.args.column all old c.loop-place.self (subst (λ (left : List ℕ). IsObserving c.args.column all left old c.loop-place.self) (overlapped-none size c.loop-place.place c.args.to past) c.loop-place.invariant.observing)
