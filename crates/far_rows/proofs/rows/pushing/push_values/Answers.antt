use Rattle.std.proofs.Common.{sym, subst}
use Rattle.far_rows.specs.Appending.{MayTakeTexts}
use Rattle.far_rows.proofs.rows.pushing.push_values.Goals as goal

pub push_all_texts-requires-clause-may : goal.push_all_texts-requires-clause-may
push_all_texts-requires-clause-may g c κs within = subst (MayTakeTexts g.S.FarTickets.content c.args.text_objects.now c.args.texts.now) (sym c.texts.ensures.texts) c.requires.texts

pub push_all_texts-requires-2-clause-may : goal.push_all_texts-requires-2-clause-may
push_all_texts-requires-2-clause-may g c κs within = subst (MayTakeTexts g.S.FarTickets.content c.args.text_objects.now c.args.texts.now) (sym c.texts-2.ensures.texts) c.requires.texts
