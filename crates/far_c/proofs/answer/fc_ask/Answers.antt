use Rattle.std.proofs.Common.{subst}
use Rattle.far_frame.specs.declared.step.Step.TheVariants as step
use Rattle.far_frame.specs.declared.step.Reply.{Reply}
use Rattle.far_frame.specs.Steps.{IsStep}
use Rattle.far_c.specs.Contents.{content, number_of}
use Rattle.far_c.proofs.Sorted.{asked-ascends}
use Rattle.far_c.proofs.answer.fc_ask.Goals as goal

pub keep-requires : goal.keep-requires
keep-requires c =
    let old = c.in-Some.table.now.world in
    let new = c.serve.new.self.world in
    asked-ascends old new c.args.aggregate c.in-Ok.answer (subst (λ (given : Reply). IsStep content number_of old (step.Ask c.args.aggregate) given new) c.in-Ok.ensures.ok c.serve.ensures.served.0)
