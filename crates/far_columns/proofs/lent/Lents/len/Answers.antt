use Rattle.std.proofs.Common.{sym, ◌∙◌}
use Rattle.far_columns.proofs.NumbersFlags.{length-with_flags}
use Rattle.far_columns.proofs.lent.Lents.len.Goals as goal

pub returns : goal.returns
returns g c = rw (← c.self.view_is) (c.len.ensures ∙ sym (length-with_flags c.self.inside.pieces c.self.inside.alive.now))
