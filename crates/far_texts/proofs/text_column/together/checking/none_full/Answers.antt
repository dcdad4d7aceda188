use Rattle.std.proofs.Common.{◌≡◌, sym, ap, subst, ◌∙◌, arith}
use Rattle.far_texts.specs.Texts.{Texts, Lists, lists_of, IsTextColumn}
use Rattle.far_texts.proofs.RefusingTogetherFormSize.{full-later}
use Rattle.far_texts.proofs.text_column.together.checking.none_full.Goals as goal

pub form_length_with_next-requires-after_bounds : goal.form_length_with_next-requires-after_bounds
form_length_with_next-requires-after_bounds g c κs within =
    subst (IsTextColumn (lists_of g.S.FarTickets.content c.args.objects.now)) (sym c.index-columns-k.is) (c.requires.each c.loop-k.k c.index-columns-k.result c.loop-k-test.true)

pub loop-k-preserved : goal.loop-k-preserved
loop-k-preserved g c =
    let lists : Lists = lists_of g.S.FarTickets.content c.args.objects.now in
    let column = c.index-columns-k.result in
    let limit : c.column.inside.limit ≡ column.limit = ap (λ (t : Texts). t.limit) c.column.view_is in
    c.loop-k.invariant ∙ full-later lists c.args.columns.now c.args.texts.now c.loop-k.k column c.index-texts-k.result c.loop-k-test.true (omega (arith, c.requires.same_length, c.loop-k-test.true)) c.index-columns-k.is c.index-texts-k.is
    (omega (arith, limit, c.in_ok-len.ensures.length, c.if-len-column.false))
