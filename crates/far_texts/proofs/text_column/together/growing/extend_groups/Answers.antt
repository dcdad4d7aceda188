use Rattle.far_texts.proofs.TogetherGrowth.{count-after_replace}
use Rattle.far_texts.proofs.text_column.together.growing.extend_groups.Goals as goal

pub returns-clause-extended : goal.returns-clause-extended
returns-clause-extended g c = record {
  pushed = c.lengthen.ensures;
  replaced = c.in_ok-replace_forms.ensures.replaced;
  count = count-after_replace c.args.objects.now c.replace_forms.new.objects c.args.forms.now c.in_ok-replace_forms.ensures.replaced;
  lists = c.in_ok-replace_forms.ensures.lists;
  free = c.in_ok-replace_forms.ensures.free;
}
