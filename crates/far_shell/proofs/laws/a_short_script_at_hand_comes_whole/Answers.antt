use Rattle.far_shell.proofs.BreaksLaws.{short-whole}
use Rattle.far_shell.proofs.laws.a_short_script_at_hand_comes_whole.Goals as goal

pub returns : goal.returns
returns g c = short-whole g.S.FarTickets
