use Rattle.std.proofs.Common.{◌≡◌, ◌<◌, ◌^◌, true, length, rules, sym, subst, arith}
use Rattle.far_texts.specs.Effects.{begins_group}
use Rattle.far_texts.proofs.EffectsAppend.{has-more}
use Rattle.far_texts.proofs.text_column.TextColumn.begin_group.Goals as goal

pub invariant_of-self-2 : goal.invariant_of-self-2
invariant_of-self-2 g c =
    let begins = subst (λ t. begins_group t ≡ true) (sym c.self.view_is) c.requires.begins in
    let few : length c.args.self.now.objects < 2 ^ 28 = omega (arith, c.requires.groups, c.requires.few) in
    rw (c.push_reserved.ensures.items, c.in_ok-reserve.ensures.items) (has-more _ c.in_ok-o.o c.self.invariant begins (subst (λ t. length t.objects < 2 ^ 28) (sym c.self.view_is) few))

pub returns-clause-begun : goal.returns-clause-begun
returns-clause-begun g c = record {
  pushed = search rules;
  created = search rules;
  list = c.in_ok-o.ensures.created.list;
}
