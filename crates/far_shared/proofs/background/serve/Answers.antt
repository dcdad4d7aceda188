use Rattle.std.proofs.Common.{arith}
use Rattle.std.proofs.lemmas.Result.{IfErr-weaker}
use Rattle.far_shared.proofs.background.serve.Goals as goal

pub returns-in-Fetch-clause-why : goal.returns-in-Fetch-clause-why
returns-in-Fetch-clause-why g c = rw c.in-Fetch.is (IfErr-weaker c.fetch.result _ _ (λ e h few low. h (omega (arith, few)) low) c.fetch.ensures.why)

pub returns-in-Err-build_once-clause-why : goal.returns-in-Err-build_once-clause-why
returns-in-Err-build_once-clause-why g c =
    rw c.in-Build.is (λ few low. c.in-Err-build_once.ensures.why low)
