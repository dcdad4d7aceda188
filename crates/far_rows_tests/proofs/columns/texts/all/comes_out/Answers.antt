use Rattle.std.proofs.Common.{sym, subst}
use Rattle.far_texts.specs.Texts.{lists_of}
use Rattle.far_texts.specs.Columns.{AreTextColumns}
use Rattle.far_rows_tests.proofs.columns.texts.all.comes_out.Goals as goal

pub get_their_own-requires-clause-are : goal.get_their_own-requires-clause-are
get_their_own-requires-clause-are g c κs within =
    subst (AreTextColumns (lists_of g.S.FarTickets.content c.args.objects.now)) (sym c.deref_mut.ensures.value)
    (c.in_ok-columns.ensures.are (lists_of g.S.FarTickets.content c.args.objects.now))
