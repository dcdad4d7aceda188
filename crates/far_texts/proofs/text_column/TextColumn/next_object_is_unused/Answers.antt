use Rattle.std.proofs.Common.{length, arith}
use Rattle.far_texts.specs.Texts.{lists_of}
use Rattle.far_texts.proofs.TextsGroups.{group-list}
use Rattle.far_texts.proofs.MovementInUse.{in-use, no-list}
use Rattle.far_texts.proofs.EffectsAppend.{few-objects}
use Rattle.far_texts.proofs.text_column.TextColumn.next_object_is_unused.Goals as goal

pub returns-clause-objects : goal.returns-clause-objects
returns-clause-objects g c =
    let m = c.args.objects.now in
    let column = c.args.self.now in
    few-objects (lists_of g.S.FarTickets.content m) column (length m.records) c.requires
    (λ k below. in-use _ g.S.FarTickets.content _ m c.number-number.ensures.tracked _ _ (group-list (lists_of g.S.FarTickets.content m) column c.requires k below))

pub returns-clause-fresh : goal.returns-clause-fresh
returns-clause-fresh g c = no-list _ g.S.FarTickets.content _ c.args.objects.now c.number-number.ensures.tracked (length c.args.objects.now.records) (omega arith)
