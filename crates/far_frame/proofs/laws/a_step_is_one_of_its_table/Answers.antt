use Rattle.far_frame.proofs.TableLaws.{step-table}
use Rattle.far_frame.proofs.laws.a_step_is_one_of_its_table.Goals as goal

pub returns : goal.returns
returns g c = λ old kept s given new h. step-table g.S.FarTickets.content g.S.FarTickets.number_of old new kept s given h
