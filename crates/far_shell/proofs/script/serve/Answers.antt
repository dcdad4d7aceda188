use Rattle.std.proofs.Common.{arith, inl, inr}
use Rattle.far_script.specs.Flow.{IsOver, IsUnseen}
use Rattle.far_script.proofs.FlowStops.{handed-on, unseen-later}
use Rattle.far_shell.proofs.LineFaultsLaws.{breaks-serving-as}
use Rattle.far_shell.proofs.BreaksLaws.{always, breaks-start, breaks-table}
use Rattle.far_commands.specs.WorldRules.{both_rules}
use Rattle.far_shell.proofs.SeenLaws.{table-script, world-script}
use Rattle.far_shell.proofs.SessionsScripts.{script-whole}
use Rattle.far_shell.proofs.SessionsLaws.{sessions-stopped, sessions-whole, stopped-unwritten}
use Rattle.far_shell.proofs.script.serve.Goals as goal

pub print_sessions-requires-clause-sessions : goal.print_sessions-requires-clause-sessions
print_sessions-requires-clause-sessions g c κs outlives =
    let w = rw c.in-Threads.is at c.in_ok-first.ensures.within in
    (w.0, w.1)

pub print_sessions-requires-clause-edits : goal.print_sessions-requires-clause-edits
print_sessions-requires-clause-edits g c κs outlives =
    let w = rw c.in-Threads.is at c.in_ok-first.ensures.within in
    (w.2, w.3)

pub returns-in_ok-serve_table-in-Schema-clause-ok : goal.returns-in_ok-serve_table-in-Schema-clause-ok
returns-in_ok-serve_table-in-Schema-clause-ok g c =
    let f = c.in_ok-first.ensures in
    let opening = c.in-Schema.opening in
    let asks = rw c.in-Schema.is at f.ok.4 in
    let s = c.in_ok-serve_table-in-Schema.ensures.ok in
    let w = script-whole g.R.Read (both_rules g.S.FarTickets) c.args.input.now c.first_command.new.input c.serve_table.new.input f.ok.0 f.ok.1 s.0 s.1 (opening.kinds.items, opening.limits) (g.W.Write.contents c.args.writer.now) (g.W.Write.contents c.first_command.new.writer) (g.W.Write.contents c.serve_table.new.writer)
    c.args.output.now.page c.first_command.new.output.page c.serve_table.new.output.page c.requires f.ok.2 f.printed f.ok.3 asks s.2 s.3 s.4 s.5 in
    (w.0, w.1, w.2, w.3, inl (world-script g.S.FarTickets w.0 w.1 w.4, w.5), inl (table-script g.S.FarTickets w.0 w.1 w.4, w.5))

pub returns-in_ok-print_sessions-in-Threads-clause-ok : goal.returns-in_ok-print_sessions-in-Threads-clause-ok
returns-in_ok-print_sessions-in-Threads-clause-ok g c =
    let f = c.in_ok-first.ensures in
    let asks = rw c.in-Threads.is at f.ok.4 in
    let s = c.in_ok-print_sessions-in-Threads.ensures.ok in
    let w = sessions-whole g.R.Read c.args.input.now c.first_command.new.input (g.W.Write.contents c.args.writer.now) (g.W.Write.contents c.first_command.new.writer) c.args.output.now.page c.first_command.new.output.page c.print_sessions.new.output.page f.ok.0 f.ok.1 s.0 c.in-Threads.sessions c.in-Threads.edits c.requires
    f.ok.2 f.ok.3 asks f.printed s.2 s.1 in
    (w.0, w.1, w.2, w.3, inr w.4, inr w.4)

pub returns-in_err-first-clause-err : goal.returns-in_err-first-clause-err
returns-in_err-first-clause-err g c =
    let why = c.in_err-first.field-0.0 in
    handed-on c.from_residual.result why _ c.from_residual.ensures.1
    (breaks-start g.R.Read _ (IsUnseen g.R.Read g.R.Source.may_fail c.args.input.now c.first_command.new.input) c.args.input.now c.first_command.new.input (g.W.Write.contents c.args.writer.now) (g.W.Write.contents c.first_command.new.writer) c.args.output.now.page c.first_command.new.output.page why c.requires c.in_err-first.ensures.err)

pub returns-in_err-serve_table-in-Schema-clause-err : goal.returns-in_err-serve_table-in-Schema-clause-err
returns-in_err-serve_table-in-Schema-clause-err g c =
    let f = c.in_ok-first.ensures in
    let opening = c.in-Schema.opening in
    let asks = rw c.in-Schema.is at f.ok.4 in
    let s = c.in_err-serve_table-in-Schema.ensures.err in
    let why = c.in_err-serve_table-in-Schema.field-0.0 in
    handed-on c.from_residual-in_err-serve_table-in-Schema.result why _ c.from_residual-in_err-serve_table-in-Schema.ensures.1
    (breaks-table g.R.Read _ (IsUnseen g.R.Read g.R.Source.may_fail c.args.input.now c.serve_table.new.input) c.args.input.now c.first_command.new.input c.serve_table.new.input (g.W.Write.contents c.args.writer.now) (g.W.Write.contents c.first_command.new.writer) (g.W.Write.contents c.serve_table.new.writer)
    c.args.output.now.page c.first_command.new.output.page c.serve_table.new.output.page f.ok.0 f.ok.1 s.0 s.1 s.2 (opening.kinds.items, opening.limits) why c.requires f.ok.2 f.printed f.ok.3 asks s.3 s.4
    (breaks-serving-as _ (IsUnseen g.R.Read g.R.Source.may_fail c.first_command.new.input c.serve_table.new.input) (IsUnseen g.R.Read g.R.Source.may_fail c.args.input.now c.serve_table.new.input) (IsOver g.R.Read c.serve_table.new.input s.1) (IsOver g.R.Read c.serve_table.new.input s.1) (opening.kinds.items, opening.limits) why s.0 s.1 s.2
    (always why _ (λ u. unseen-later g.R.Read g.R.Source.may_fail c.args.input.now c.first_command.new.input c.serve_table.new.input f.ok.0 f.ok.2 c.first_command.ensures.asked u)) (λ over. over) s.5))

pub returns-in_err-print_sessions-in-Threads-clause-err : goal.returns-in_err-print_sessions-in-Threads-clause-err
returns-in_err-print_sessions-in-Threads-clause-err g c =
    let f = c.in_ok-first.ensures in
    let asks = rw c.in-Threads.is at f.ok.4 in
    let s = c.in_err-print_sessions-in-Threads.ensures in
    let why = c.in_err-print_sessions-in-Threads.field-0.0 in
    handed-on c.from_residual-in_err-print_sessions-in-Threads.result why _ c.from_residual-in_err-print_sessions-in-Threads.ensures.1
    (sessions-stopped g.R.Read _ c.args.input.now c.first_command.new.input (g.W.Write.contents c.args.writer.now) (g.W.Write.contents c.first_command.new.writer) c.args.output.now.page c.first_command.new.output.page c.print_sessions.new.output.page f.ok.0 f.ok.1 c.in-Threads.sessions c.in-Threads.edits why (IsUnseen g.R.Read g.R.Source.may_fail c.args.input.now c.first_command.new.input) c.requires f.ok.2 f.ok.3 asks f.printed s.err s.fault)

pub returns-in_ok-serve_table-in-Schema-clause-asked : goal.returns-in_ok-serve_table-in-Schema-clause-asked
returns-in_ok-serve_table-in-Schema-clause-asked g c =
    omega (arith, c.serve_table.ensures.asked, c.first_command.ensures.asked)

pub returns-in_err-serve_table-in-Schema-clause-asked : goal.returns-in_err-serve_table-in-Schema-clause-asked
returns-in_err-serve_table-in-Schema-clause-asked g c =
    omega (arith, c.serve_table.ensures.asked, c.first_command.ensures.asked)

pub returns-in_err-print_sessions-in-Threads-clause-failed : goal.returns-in_err-print_sessions-in-Threads-clause-failed
returns-in_err-print_sessions-in-Threads-clause-failed g c =
    let why = c.in_err-print_sessions-in-Threads.field-0.0 in
    handed-on c.from_residual-in_err-print_sessions-in-Threads.result why _ c.from_residual-in_err-print_sessions-in-Threads.ensures.1
    (stopped-unwritten why _ c.in_err-print_sessions-in-Threads.ensures.fault)

pub returns-in_err-serve_table-in-Schema-clause-failed : goal.returns-in_err-serve_table-in-Schema-clause-failed
returns-in_err-serve_table-in-Schema-clause-failed g c =
    let why = c.in_err-serve_table-in-Schema.field-0.0 in
    handed-on c.from_residual-in_err-serve_table-in-Schema.result why _ c.from_residual-in_err-serve_table-in-Schema.ensures.1 c.in_err-serve_table-in-Schema.ensures.failed
