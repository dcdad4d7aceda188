use Rattle.far_frame.proofs.StepsLaws.{merged-state, merged-scan}
use Rattle.far_frame.proofs.laws.a_merge_is_a_scan.Goals as goal

pub returns : goal.returns
returns g c =
    let content = g.S.FarTickets.content in
    let number_of = g.S.FarTickets.number_of in
    record { table = merged-state content number_of; scan = merged-scan content number_of }
