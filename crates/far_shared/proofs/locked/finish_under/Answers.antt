use Rattle.std.proofs.Common.{rules, ℕ, sym, subst}
use Rattle.far_frame.specs.Jobs.{job_kind}
use Rattle.far_shared.specs.Works.{EndsWork}
use Rattle.far_shared.specs.UnderLock.{IsUnder}
use Rattle.far_shared.proofs.UnderLockLaws.{changes-under}
use Rattle.far_shared.proofs.locked.finish_under.Goals as goal

pub returns-clause-ended : goal.returns-clause-ended
returns-clause-ended g c =
    let under = λ (n : ℕ). IsUnder g.N.PlanTag.plan g.S.FarTickets.is_of g.B.TableTag.store n in
    let old = c.deref_mut.result.now in
    let new = c.finish-ended.new.self in
    let before : under g.row.I old = search rules in
    let after : under g.row.I new = search rules in
    changes-under (under c.args.stripe)
    (λ old new. EndsWork g.S.FarTickets.number_of g.S.FarTickets.content old (job_kind c.args.job.now) c.args.job.now.work new)
    old new c.finish-ended.result
    (subst (λ n. under n old) (sym c.requires.own) before)
    (subst (λ n. under n new) (sym c.requires.own) after)
    c.finish-ended.ensures.same c.finish-ended.ensures.ended
