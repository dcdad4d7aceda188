use Rattle.std.proofs.Common.{◌≡◌, ℕ, ◌+◌, ◌<◌, ◌≤◌, ◌^◌, true, [], ◌∷◌, ◌++◌, length, sym, ap, subst, ◌∙◌, arith}
use Rattle.std.specs.Prelude.{All}
use Rattle.std.proofs.lemmas.List.Elements.{All-head, All-rest, All-weaker}
use Rattle.far_scopes.specs.declared.replacement.Replacement.{Replacement}
use Rattle.far_scopes.specs.Effects.{after_create}
use Rattle.far_texts.specs.Texts.{Texts, Lists, lists_of}
use Rattle.far_texts.specs.Effects.{begins_group}
use Rattle.far_texts.specs.Together.{ChangesTo, forms_of, after_create_all}
use Rattle.far_texts.proofs.EffectsAppend.{has-more}
use Rattle.far_texts.proofs.TogetherGrowth.{count-after_create, numbered-rest, numbered-first, numbered-disjoint, changes-more, pushed-more, created-more, fit-more}
use Rattle.far_texts.proofs.text_column.together.growing.+begin_groups.Goals as goal

pub begin_groups-requires-clause-groups : goal.begin_groups-requires-clause-groups
begin_groups-requires-clause-groups g t c κs within =
    let m = c.args.objects.now in
    let more = count-after_create m c.create.new.self _ _ c.in_ok-o.ensures.created.state in
    All-weaker (λ (d : Texts). length d.objects ≤ length m.records) (λ (d : Texts). length d.objects ≤ length c.create.new.self.records) (λ d few. omega (arith, few, more)) c.in-Some.columns.now
    (All-rest (λ (d : Texts). length d.objects ≤ length m.records) c.in-Some.column.now c.in-Some.columns.now c.args.columns.now c.in-Some.ensures.cases.0 c.requires.groups)

pub begin_groups-requires-clause-some : goal.begin_groups-requires-clause-some
begin_groups-requires-clause-some g t c κs within =
    All-rest (λ (r : Replacement ℕ). 0 < length r.list.items) c.in-Some-split_first.form.now c.in-Some-split_first.forms.now c.args.forms.now c.in-Some-split_first.ensures.cases.0 c.requires.some

pub begin_groups-requires-clause-numbered : goal.begin_groups-requires-clause-numbered
begin_groups-requires-clause-numbered g t c κs within =
    let m = c.args.objects.now in
    let more = count-after_create m c.create.new.self _ _ c.in_ok-o.ensures.created.state in
    let rest = numbered-rest (length m.records) c.in-Some-split_first.form.now c.in-Some-split_first.forms.now c.args.forms.now c.in-Some-split_first.ensures.cases.0 c.requires.numbered in
    λ k d below. let at = rest k d below in omega (arith, at, more)

pub invariant_of-column-2 : goal.invariant_of-column-2
invariant_of-column-2 g t c =
    let m = c.args.objects.now in
    let first = All-head (λ (d : Texts). begins_group d ≡ true) c.in-Some.column.now c.in-Some.columns.now (subst (λ l. All (λ (d : Texts). begins_group d ≡ true) l) c.in-Some.ensures.cases.0 c.requires.begin) in
    let few = All-head (λ (d : Texts). length d.objects ≤ length m.records) c.in-Some.column.now c.in-Some.columns.now (subst (λ l. All (λ (d : Texts). length d.objects ≤ length m.records) l) c.in-Some.ensures.cases.0 c.requires.groups) in
    let begins = subst (λ t. begins_group t ≡ true) (sym c.column.view_is) first in
    let some : length c.in-Some.columns.now + 1 ≡ length c.args.columns.now = c.in-Some.ensures.cases.1 in
    let space : length c.in-Some.column.now.objects < 2 ^ 28 = omega (arith, few, some, c.requires.few) in
    rw (c.push_reserved.ensures.items, c.in_ok-reserve.ensures.items) (has-more _ c.in_ok-o.o c.column.invariant begins (subst (λ t. length t.objects < 2 ^ 28) (sym c.column.view_is) space))

pub returns-clause-begun : goal.returns-clause-begun
returns-clause-begun g t c =
    let m = c.args.objects.now in
    let lists : Lists = lists_of g.S.FarTickets.content m in
    let made = c.in_default-begin_groups.ensures.begun in
    let columns = c.in-Some.ensures.cases.0 in
    let forms = c.in-Some-split_first.ensures.cases.0 in
    let begins = All-head (λ (d : Texts). begins_group d ≡ true) c.in-Some.column.now c.in-Some.columns.now (subst (λ l. All (λ (d : Texts). begins_group d ≡ true) l) columns c.requires.begin) in
    let items = c.column.inside.objects.items in
    let more = count-after_create m c.create.new.self _ _ c.in_ok-o.ensures.created.state in
    let first = numbered-first (length m.records) c.in-Some-split_first.form.now c.in-Some-split_first.forms.now c.args.forms.now forms c.requires.numbered in
    let rest = numbered-rest (length m.records) c.in-Some-split_first.form.now c.in-Some-split_first.forms.now c.args.forms.now forms c.requires.numbered in
    record {
      pushed = pushed-more (length m.records) (length c.create.new.self.records) _ _ c.in-Some.columns.now _ c.args.columns.now
          (columns ∙ ap (λ (d : Texts). d ∷ c.in-Some.columns.now) (sym c.column.view_is)) (subst (λ t. begins_group t ≡ true) (sym c.column.view_is) begins)
          (c.push_reserved.ensures.items ∙ ap (λ l. l ++ c.in_ok-o.o ∷ []) c.in_ok-reserve.ensures.items ∙ ap (λ o. items ++ o ∷ []) c.in_ok-o.ensures.number)
          more made.pushed;
      created = created-more m c.create.new.self c.begin_groups.new.objects _ c.in-Some.columns.now c.args.columns.now _ _ _ _
          (columns ∙ ap (λ (d : Texts). d ∷ c.in-Some.columns.now) (sym c.column.view_is)) c.deref.ensures.value
          (c.in_ok-o.ensures.created.state ∙ ap (λ n. after_create m record { column = c.column.inside.column; group = n } c.deref.result.now) (c.len.ensures ∙ c.column.inside.objects.ok.0)) made.created
          ∙ ap (λ l. after_create_all m c.args.columns.now (forms_of l)) (sym forms);
      count = omega (arith, more, made.count, c.in-Some.ensures.cases.1);
      lists = subst (λ l. ChangesTo lists (lists_of g.S.FarTickets.content c.begin_groups.new.objects) (forms_of l)) (sym forms)
          (changes-more lists (lists_of g.S.FarTickets.content c.create.new.self) (lists_of g.S.FarTickets.content c.begin_groups.new.objects) (length m.records) _ _ _ _ first c.deref.ensures.value
          (numbered-disjoint (length m.records) c.in-Some-split_first.forms.now rest) c.in_ok-o.ensures.created.list made.lists);
      space = fit-more m c.create.new.self c.in-Some-split_first.form.now c.in-Some-split_first.forms.now c.args.forms.now _ forms c.deref.ensures.value c.in_ok-o.ensures.created.next made.space;
    }

pub returns-clause-copies : goal.returns-clause-copies
returns-clause-copies g t c = record {
  clean = λ clean. c.begin_groups.ensures.copies.clean (c.create.ensures.copies.clean clean);
  store = λ id here. c.begin_groups.ensures.copies.store id (c.create.ensures.copies.store id here);
}
