use Rattle.std.proofs.Common.{◌≡◌, ◌<◌, length, get_or, sym, ap, subst, ◌∙◌}
use Rattle.std.proofs.lemmas.List.{get_or_read}
use Rattle.far_texts.proofs.TextsGroups.{group-list}
use Rattle.far_texts.proofs.MovementInUse.{in-use}
use Rattle.far_texts.proofs.text_column.TextColumn.object_in_use.Goals as goal

pub returns-clause-used : goal.returns-clause-used
returns-clause-used g c =
    let here = group-list _ c.args.self.now c.requires.is c.args.group c.requires.begun in
    let items : c.self.inside.objects.items ≡ c.args.self.now.objects = ap (λ t. t.objects) c.self.view_is in
    let within = subst (λ os. c.args.group < length os) (sym items) c.requires.begun in
    let read = get_or_read c.self.inside.objects.items c.args.group c.index.result.now within c.index.ensures 0 in
    subst (λ o. o < length c.args.objects.now.records) (sym (read ∙ ap (λ os. get_or os c.args.group 0) items)) (in-use _ g.S.FarTickets.content _ c.args.objects.now c.number-number.ensures.tracked _ _ here)
