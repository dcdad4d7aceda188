use Rattle.std.proofs.Common.{◌≡◌, [], inl, refl}
use Rattle.far_commands.specs.declared.command.Command.TheVariants as command
use Rattle.far_commands.specs.Listings.{listing_of}
use Rattle.far_frame.specs.State.{live}
use Rattle.far_script.proofs.FlowLaws.{prints, reads-none}
use Rattle.far_script.proofs.FlowStops.{at-halted, each-fault, not-input}
use Rattle.far_commands.proofs.CutsLaws.{cut-more, no-input, no-output, printed-err}
use Rattle.far_commands.proofs.ResultLaws.{on-ok}
use Rattle.far_commands.proofs.serve.serve_command.Goals as goal

pub returns-in-Step-clause-ok : goal.returns-in-Step-clause-ok
returns-in-Step-clause-ok g c =
    on-ok c.serve_step.result _ _ (λ said. ([], said.0, reads-none g.R.Read _ _ refl, prints (g.W.Write.contents c.args.writer.now) c.args.output.now.page said.0 c.serve_step.new.output.page said.2, rw c.in-Step.is said.1)) c.serve_step.ensures.ok

pub returns-in-Step-clause-err : goal.returns-in-Step-clause-err
returns-in-Step-clause-err g c = printed-err c.serve_step.result _ (g.W.Write.contents c.args.writer.now) c.args.output.now.page c.serve_step.new.output.page c.serve_step.ensures.memory c.serve_step.ensures.err

pub returns-in-Step-clause-stopped : goal.returns-in-Step-clause-stopped
returns-in-Step-clause-stopped g c = no-input c.serve_step.result _ c.serve_step.ensures.memory

pub returns-in-Step-clause-taken : goal.returns-in-Step-clause-taken
returns-in-Step-clause-taken g c = at-halted c.serve_step.result _ ([], reads-none g.R.Read _ _ refl, inl refl)

pub returns-in-Step-clause-failed : goal.returns-in-Step-clause-failed
returns-in-Step-clause-failed g c = no-output c.serve_step.result _ c.serve_step.ensures.memory

pub returns-in-Renew-clause-ok : goal.returns-in-Renew-clause-ok
returns-in-Renew-clause-ok g c =
    on-ok c.serve_renewal.result _ _ (λ said. ([], said.0, reads-none g.R.Read _ _ refl, prints (g.W.Write.contents c.args.writer.now) c.args.output.now.page said.0 c.serve_renewal.new.output.page said.2, rw c.in-Renew.is said.1)) c.serve_renewal.ensures.ok

pub returns-in-Renew-clause-err : goal.returns-in-Renew-clause-err
returns-in-Renew-clause-err g c = printed-err c.serve_renewal.result _ (g.W.Write.contents c.args.writer.now) c.args.output.now.page c.serve_renewal.new.output.page c.serve_renewal.ensures.memory c.serve_renewal.ensures.err

pub returns-in-Renew-clause-stopped : goal.returns-in-Renew-clause-stopped
returns-in-Renew-clause-stopped g c = no-input c.serve_renewal.result _ c.serve_renewal.ensures.memory

pub returns-in-Renew-clause-taken : goal.returns-in-Renew-clause-taken
returns-in-Renew-clause-taken g c = at-halted c.serve_renewal.result _ ([], reads-none g.R.Read _ _ refl, inl refl)

pub returns-in-Renew-clause-failed : goal.returns-in-Renew-clause-failed
returns-in-Renew-clause-failed g c = no-output c.serve_renewal.result _ c.serve_renewal.ensures.memory

pub returns-in-Recount-clause-ok : goal.returns-in-Recount-clause-ok
returns-in-Recount-clause-ok g c =
    on-ok c.serve_recount.result _ _ (λ said. ([], said.0, reads-none g.R.Read _ _ refl, prints (g.W.Write.contents c.args.writer.now) c.args.output.now.page said.0 c.serve_recount.new.output.page said.2, rw c.in-Recount.is said.1)) c.serve_recount.ensures.ok

pub returns-in-Recount-clause-err : goal.returns-in-Recount-clause-err
returns-in-Recount-clause-err g c = printed-err c.serve_recount.result _ (g.W.Write.contents c.args.writer.now) c.args.output.now.page c.serve_recount.new.output.page c.serve_recount.ensures.memory c.serve_recount.ensures.err

pub returns-in-Recount-clause-stopped : goal.returns-in-Recount-clause-stopped
returns-in-Recount-clause-stopped g c = no-input c.serve_recount.result _ c.serve_recount.ensures.memory

pub returns-in-Recount-clause-taken : goal.returns-in-Recount-clause-taken
returns-in-Recount-clause-taken g c = at-halted c.serve_recount.result _ ([], reads-none g.R.Read _ _ refl, inl refl)

pub returns-in-Recount-clause-failed : goal.returns-in-Recount-clause-failed
returns-in-Recount-clause-failed g c = no-output c.serve_recount.result _ c.serve_recount.ensures.memory

pub returns-in-Load-clause-ok : goal.returns-in-Load-clause-ok
returns-in-Load-clause-ok g c = rw c.in-Load.is c.serve_load.ensures.ok

pub returns-in-Load-clause-err : goal.returns-in-Load-clause-err
returns-in-Load-clause-err g c =
    each-fault c.serve_load.result _ _ (λ why p. (p.0, p.1, cut-more why (λ said. ⊥) (λ said. (c.args.command ≡ command.Dump) × (said ≡ listing_of (live c.args.world.now.state))) p.0 (λ said s. absurd s) p.2)) c.serve_load.ensures.err

pub returns-in-Load-clause-stopped : goal.returns-in-Load-clause-stopped
returns-in-Load-clause-stopped g c = rw c.in-Load.is c.serve_load.ensures.stopped

pub returns-in-Load-clause-taken : goal.returns-in-Load-clause-taken
returns-in-Load-clause-taken g c = rw c.in-Load.is c.serve_load.ensures.taken

pub returns-in-Dump-clause-ok : goal.returns-in-Dump-clause-ok
returns-in-Dump-clause-ok g c =
    on-ok c.serve_dump.result _ _ (λ said. ([], said.0, reads-none g.R.Read _ _ refl, said.1, rw c.in-Dump.is said.2)) c.serve_dump.ensures.ok

pub returns-in-Dump-clause-err : goal.returns-in-Dump-clause-err
returns-in-Dump-clause-err g c =
    let listed = listing_of (live c.args.world.now.state) in
    each-fault c.serve_dump.result _ _ (λ why p. (p.0, p.1, cut-more why (λ said. said ≡ listed) (λ said. (c.args.command ≡ command.Dump) × (said ≡ listed)) p.0 (λ said is. (c.in-Dump.is, is)) p.2)) c.serve_dump.ensures.err

pub returns-in-Dump-clause-stopped : goal.returns-in-Dump-clause-stopped
returns-in-Dump-clause-stopped g c = each-fault c.serve_dump.result _ _ (λ why other. not-input why _ other) c.serve_dump.ensures.fault

pub returns-in-Dump-clause-taken : goal.returns-in-Dump-clause-taken
returns-in-Dump-clause-taken g c = at-halted c.serve_dump.result _ ([], reads-none g.R.Read _ _ refl, inl refl)
