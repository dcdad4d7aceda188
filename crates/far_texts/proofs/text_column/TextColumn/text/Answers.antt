use Rattle.std.proofs.Common.{◌≡◌, ◌<◌, ap, get_or, Some, subst, ◌∙◌, arith}
use Rattle.std.specs.Prelude.{slice_get}
use Rattle.std.specs.Option.{option_and_then}
use Rattle.far_codec.specs.TextForm.{texts_meaning}
use Rattle.far_texts.specs.Texts.{lists_of, HasGroups}
use Rattle.far_texts.proofs.TextsGroups.{text-lent}
use Rattle.far_texts.proofs.text_column.TextColumn.text.Goals as goal

pub returns-clause-text : goal.returns-clause-text
returns-clause-text g c =
    let lists = lists_of g.S.FarTickets.content c.args.objects.now in
    let column = c.args.self.now in
    let form = c.in_ok-form.form.now in
    let has = subst HasGroups c.self.view_is c.self.invariant in
    let below : c.args.place < column.len = subst (λ t. c.args.place < t.len) c.self.view_is (omega arith) in
    text-lent lists column c.requires has c.args.place form _ below
    (subst (λ k. lists (get_or column.objects k 0) ≡ Some form) c.group_of-group.ensures c.in_ok-form.ensures.lent)
    (c.text_of.ensures ∙ ap (λ i. option_and_then (λ t. t) (slice_get (texts_meaning form) i)) c.index_in.ensures)
