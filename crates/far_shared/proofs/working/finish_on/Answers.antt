use Rattle.far_shared.proofs.StripesColumns.{commits-columns, either-columns, installs-columns, merges-columns}
use Rattle.far_shared.proofs.WorksLaws.{commits-carried, commits-keeps, either-carried, either-keeps, installs-carried, installs-keeps, merges-carried, merges-keeps}
use Rattle.far_shared.proofs.working.finish_on.Goals as goal

pub returns-in-Evac-clause-keeps : goal.returns-in-Evac-clause-keeps
returns-in-Evac-clause-keeps g c = record {
  rows = either-keeps c.commit.result c.args.frame.now c.commit.new.self _ _ (λ x h. commits-keeps _ c.args.frame.now c.args.job.now.work c.commit.new.self h) (λ e h. h) c.commit.ensures.committed c.commit.ensures.err;
  columns = either-columns c.commit.result c.args.frame.now c.commit.new.self _ _ (λ x h. commits-columns _ c.args.frame.now c.commit.new.self c.args.job.now.work h) (λ e h. h) c.commit.ensures.committed c.commit.ensures.err;
  here = c.commit.ensures.here;
}

pub returns-in-Evac-clause-carried : goal.returns-in-Evac-clause-carried
returns-in-Evac-clause-carried g c = either-carried c.commit.result _ _ (commits-carried _ c.args.frame.now c.commit.new.self c.args.job.now.work) c.commit.ensures.committed

pub returns-in-Fetch-clause-keeps : goal.returns-in-Fetch-clause-keeps
returns-in-Fetch-clause-keeps g c = record {
  rows = either-keeps c.install.result c.args.frame.now c.install.new.self _ _ (λ x h. installs-keeps _ _ c.args.frame.now c.args.job.now.work c.install.new.self h) (λ e h. h) c.install.ensures.installed c.install.ensures.err;
  columns = either-columns c.install.result c.args.frame.now c.install.new.self _ _ (λ x h. installs-columns _ _ c.args.frame.now c.install.new.self c.args.job.now.work h) (λ e h. h) c.install.ensures.installed c.install.ensures.err;
  here = c.install.ensures.here;
}

pub returns-in-Fetch-clause-carried : goal.returns-in-Fetch-clause-carried
returns-in-Fetch-clause-carried g c = either-carried c.install.result _ _ (installs-carried _ _ c.args.frame.now c.install.new.self c.args.job.now.work) c.install.ensures.installed

pub returns-in-Offload-clause-keeps : goal.returns-in-Offload-clause-keeps
returns-in-Offload-clause-keeps g c = record {
  rows = either-keeps c.merge.result c.args.frame.now c.merge.new.self _ _ (λ x h. merges-keeps _ c.args.frame.now c.args.job.now.work c.merge.new.self h) (λ e h. h) c.merge.ensures.merged c.merge.ensures.err;
  columns = either-columns c.merge.result c.args.frame.now c.merge.new.self _ _ (λ x h. merges-columns _ c.args.frame.now c.merge.new.self c.args.job.now.work h) (λ e h. h) c.merge.ensures.merged c.merge.ensures.err;
  here = c.merge.ensures.here;
}

pub returns-in-Offload-clause-carried : goal.returns-in-Offload-clause-carried
returns-in-Offload-clause-carried g c = either-carried c.merge.result _ _ (merges-carried _ c.args.frame.now c.merge.new.self c.args.job.now.work) c.merge.ensures.merged
