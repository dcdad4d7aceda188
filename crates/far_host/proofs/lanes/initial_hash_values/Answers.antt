use Rattle.std.proofs.Common.{zero, suc, refl, arith}
use Rattle.far_host.proofs.lanes.initial_hash_values.Goals as goal

pub returns : goal.returns
returns c zero below = refl
returns c (suc zero) below = refl
returns c (suc (suc zero)) below = refl
returns c (suc (suc (suc zero))) below = refl
returns c (suc (suc (suc (suc n)))) below = absurd (omega arith)
