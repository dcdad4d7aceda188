use Rattle.std.proofs.Common.{◌≡◌, true, false, [], ◌∷◌, ◌++◌, ◌+◌, sym, ap, subst, ◌∙◌, arith}
use Rattle.far_table.specs.MixedGroups.{AreReadBelow}
use Rattle.far_table.proofs.MixedGroupsReads.{one-past, one-read, copy-read}
use Rattle.far_table.proofs.contents.contents_away.Goals.{in-Some+in_ok-content_of+in_ok-push, in_default}
use Rattle.far_table.proofs.contents.contents_away.Goals as goal

pub loop-column-preserved : goal.loop-column-preserved
loop-column-preserved g c =
    let content = g.S.FarTickets.content in
    let r = c.args.rows.now in
    let spec = c.args.spec.now in
    let k = c.loop-column.column in
    let inv = c.loop-column.invariant in
    let reads = c.loop-column.contents.items in
    elim c.match-away_copy.branch [
      | in-Some+in_ok-content_of+in_ok-push w ↦
          let ticket = w.in-Some.ticket.now in
          let added : c.match-away_copy.contents.items ≡ reads ++ (k, content ticket) ∷ [] =
          ap (λ v. v.items) w.contents-is ∙ w.in_ok-push.ensures.items ∙ ap (λ x. reads ++ x ∷ []) w.in_ok-content_of.ensures.content in
          record {
            contents = subst (AreReadBelow content record { rows = r; group = c.args.group } (k + 1) spec) (sym added) (one-read content record { rows = r; group = c.args.group } spec k reads (content ticket) inv.contents (copy-read content r c.args.group k ticket w.in-Some.ensures.copy));
            meter = w.meter-is ∙ omega (arith, w.in_ok-content_of.ensures.faults, inv.meter);
          }
      | in_default w ↦ record {
        contents = subst (λ v. AreReadBelow content record { rows = r; group = c.args.group } (k + 1) spec v.items) (sym w.contents-is)
            (one-past content record { rows = r; group = c.args.group } spec k reads inv.contents (λ wanted away. let none : false ≡ true = w.in_default.ensures.all wanted away in absurd cc));
        meter = w.meter-is ∙ inv.meter;
      }
    ]
