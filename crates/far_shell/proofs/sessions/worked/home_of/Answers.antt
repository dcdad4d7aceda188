use Rattle.std.proofs.Common.{rules}
use Rattle.far_shell.proofs.sessions.worked.home_of.Goals as goal

pub returns : goal.returns
returns g c = let e = c.number.ensures 0 in search rules
