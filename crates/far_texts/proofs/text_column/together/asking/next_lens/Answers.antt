use Rattle.std.proofs.Common.{◌≡◌, ◌+◌, ◌<◌, [], ◌++◌, length, take, drop, sym, ap, subst, ◌∙◌, arith, length-set}
use Rattle.std.proofs.lemmas.List.{append-nil, drop_all}
use Rattle.far_texts.specs.Texts.{Texts, Lists, lists_of, IsTextColumn}
use Rattle.far_texts.proofs.RefusingTogetherForms.{lens-from, lens-more}
use Rattle.far_texts.proofs.RefusingTogetherFormSize.{full-later}
use Rattle.far_texts.proofs.text_column.together.asking.next_lens.Goals as goal

pub form_length_with_next-requires-after_bounds : goal.form_length_with_next-requires-after_bounds
form_length_with_next-requires-after_bounds g c κs within =
    subst (IsTextColumn (lists_of g.S.FarTickets.content c.args.objects.now)) (sym c.index-columns-k.is) (c.requires.each c.loop-k.k c.index-columns-k.result c.loop-k-test.true)

pub loop-k-preserved : goal.loop-k-preserved
loop-k-preserved g c =
    let lists : Lists = lists_of g.S.FarTickets.content c.args.objects.now in
    let k = c.loop-k.k in
    let lens = c.loop-k.lens in
    let column = c.index-columns-k.result in
    let limit : c.column.inside.limit ≡ column.limit = ap (λ (t : Texts). t.limit) c.column.view_is in
    let inside : k < length c.args.texts.now = omega (arith, c.requires.same_length, c.loop-k-test.true) in
    let count : length lens ≡ 16 = c.loop-k.invariant.1 in
    let place : k < length lens = omega (arith, count, c.requires.few, c.loop-k-test.true) in (
      λ n. lens-more lists c.args.columns.now c.args.texts.now k column c.index-texts-k.result c.loop-k-test.true inside c.index-columns-k.is c.index-texts-k.is
          n lens (lens-from lists n c.args.columns.now c.args.texts.now) c.in_ok-len.len c.in_ok-len.ensures.length place (c.loop-k.invariant.0 n),
      length-set lens k c.in_ok-len.len ∙ count,
      c.loop-k.invariant.2 ∙ full-later lists c.args.columns.now c.args.texts.now k column c.index-texts-k.result c.loop-k-test.true inside c.index-columns-k.is c.index-texts-k.is
          (omega (arith, limit, c.in_ok-len.ensures.length, c.if-len-column.false)),
    )

pub returns-clause-lens : goal.returns-clause-lens
returns-clause-lens g c = λ n.
    let lists : Lists = lists_of g.S.FarTickets.content c.args.objects.now in
    let columns = c.args.columns.now in
    let texts = c.args.texts.now in
    let k = c.loop-k.k in
    let lens = c.loop-k.lens in
    let all : k ≡ length columns = omega arith in
    let none : drop k columns ≡ [] = drop_all k columns c.loop-k-test.false in
    ap (λ i. take i lens) (sym all)
    ∙ sym (append-nil (take k lens))
    ∙ ap (λ cs. take k lens ++ lens-from lists (n + k) cs (drop k texts)) (sym none)
    ∙ c.loop-k.invariant.0 n
