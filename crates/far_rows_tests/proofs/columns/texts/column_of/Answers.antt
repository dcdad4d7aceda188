use Rattle.std.proofs.Common.{sym, subst, arith}
use Rattle.far_texts.specs.Texts.{lists_of, IsTextColumn}
use Rattle.far_rows_tests.proofs.columns.texts.column_of.Goals as goal

pub returns : goal.returns
returns g c = subst (IsTextColumn (lists_of g.S.FarTickets.content c.args._objects.now)) (sym c.index-columns-k.is) (c.requires.each c.args.k c.index-columns-k.result (omega (arith, c.if-k-columns.false)))
