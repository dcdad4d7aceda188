use Rattle.std.proofs.Common.{[], ◌++◌, ◌≡◌}
use Rattle.std.specs.Prelude.{IfSome}
use Rattle.far_shell.specs.Breaks.{IsUnfinished}
use Rattle.far_shell.proofs.BreaksLaws.{sure-writer}
use Rattle.far_shell.proofs.laws.a_sure_writer_is_never_at_fault.Goals as goal

pub returns : goal.returns
returns g c reader = sure-writer g.S.FarTickets (IsUnfinished g.R.Source.may_fail) (λ rest. rest ≡ []) (λ _ bytes rest. IfSome (g.R.Read.remaining reader) (λ script. script ≡ bytes ++ rest))
