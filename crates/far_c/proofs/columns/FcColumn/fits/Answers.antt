use Rattle.std.proofs.Common.{sym, subst}
use Rattle.std.specs.Prelude.{◌↔◌, IsTrue}
use Rattle.far_types.specs.declared.cell.Kind.{Kind}
use Rattle.far_c.specs.ColumnFaults.{IsColumnOf}
use Rattle.far_c.proofs.columns.FcColumn.fits.Goals as goal

pub returns-in-Int : goal.returns-in-Int
returns-in-Int c = subst (λ (kind : Kind). IsTrue c.has_numbers.result ↔ IsColumnOf kind c.args.rows c.args.self.now) (sym c.in-Int.is) c.has_numbers.ensures

pub returns-in-Text : goal.returns-in-Text
returns-in-Text c = subst (λ (kind : Kind). IsTrue c.has_texts.result ↔ IsColumnOf kind c.args.rows c.args.self.now) (sym c.in-Text.is) c.has_texts.ensures
