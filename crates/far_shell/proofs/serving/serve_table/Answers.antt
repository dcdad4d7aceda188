use Rattle.std.proofs.lemmas.Result.{IfErr-weaker, on_ok_weaker}
use Rattle.far_script.specs.Flow.{IsUnseen}
use Rattle.far_shell.proofs.LineFaultsLaws.{breaks-lines, rejects-table}
use Rattle.far_commands.specs.WorldRules.{both_rules}
use Rattle.far_shell.proofs.SeenLaws.{world-new}
use Rattle.far_shell.proofs.ScriptsLaws.{serves-table}
use Rattle.far_shell.proofs.serving.serve_table.Goals as goal

pub returns-in-Ok-clause-ok : goal.returns-in-Ok-clause-ok
returns-in-Ok-clause-ok g c =
    on_ok_weaker c.serve_lines-served.result
    (λ s. serves-table g.R.Read (both_rules g.S.FarTickets) c.args.input.now c.serve_lines-served.new.input (g.W.Write.contents c.args.writer.now) (g.W.Write.contents c.serve_lines-served.new.writer) c.args.output.now.page c.open.new.output.page c.serve_lines-served.new.output.page
    s.0 s.1 (c.args.opening.kinds.items, c.args.opening.limits) c.in-Ok.progress c.in-Ok.ensures.said c.in-Ok.ensures.ok s.2 s.3 s.4 s.5)
    c.serve_lines-served.ensures.ok

pub returns-in-Ok-clause-err : goal.returns-in-Ok-clause-err
returns-in-Ok-clause-err g c =
    IfErr-weaker c.serve_lines-served.result _ _
    (λ why s. breaks-lines g.R.Read g.S.FarTickets (IsUnseen g.R.Read g.R.Source.may_fail c.args.input.now c.serve_lines-served.new.input) c.args.input.now c.serve_lines-served.new.input (g.W.Write.contents c.args.writer.now) (g.W.Write.contents c.serve_lines-served.new.writer) c.args.output.now.page c.open.new.output.page c.serve_lines-served.new.output.page
    s.0 s.1 s.2 (c.args.opening.kinds.items, c.args.opening.limits) c.in-Ok.progress why c.in-Ok.ensures.said (world-new g.S.FarTickets (c.args.opening.kinds.items, c.args.opening.limits) c.in-Ok.progress c.in-Ok.ensures.ok) s.3 s.4 s.5)
    c.serve_lines-served.ensures.err

pub returns-in-Err-clause-err : goal.returns-in-Err-clause-err
returns-in-Err-clause-err g c =
    let p = c.in-Err.ensures.err in
    rejects-table g.R.Read g.S.FarTickets (IsUnseen g.R.Read g.R.Source.may_fail c.args.input.now c.args.input.now) c.args.input.now (g.W.Write.contents c.args.writer.now) c.args.output.now.page c.open.new.output.page p.0 (c.args.opening.kinds.items, c.args.opening.limits) c.in-Err.fault p.1 p.2
