use Rattle.std.proofs.Common.{length, refl, ap, ◌∙◌, arith}
use Rattle.std.proofs.lemmas.List.{take_all, length-map}
use Rattle.far_log.specs.declared.part_entry.PartEntry.{PartEntry}
use Rattle.far_log.specs.Storage.{extents_of, links_of, emptied_at}
use Rattle.far_log.proofs.StorageEntries.{link-is}
use Rattle.far_log.proofs.StorageLinks.{as-many, length-emptied, ends-emptied, within-extents, before-within, behind-within, last-left, last-linked, rest-linked, linked-take}
use Rattle.far_log.proofs.links.unlink.Goals as goal
use Rattle.far_log.proofs.links.unlink.Goals.{then-before-gt0, else-before-gt0}

pub returns-then-number-count-clause-within : goal.returns-then-number-count-clause-within
returns-then-number-count-clause-within c =
    let named = link-is c.args.table.now c.args.number c.get-before.result c.get-before.ensures in
    let before = before-within (extents_of c.args.table.now) (links_of c.args.table.now) c.args.number c.get-before.result.link c.requires.linked c.requires.there named in
    omega (arith, before, c.if-number-count.true, c.len-count.ensures.len)

pub returns-then-number-count-clause-kept : goal.returns-then-number-count-clause-kept
returns-then-number-count-clause-kept c =
    let named = link-is c.args.table.now c.args.number c.get-before.result c.get-before.ensures in
    let long = length-map c.args.table.now (λ (u : PartEntry). u.extent) in
    (last-left (extents_of c.args.table.now) (links_of c.args.table.now) c.args.number c.get-before.result.link c.requires.linked c.requires.there named (omega (arith, long, c.if-number-count.true, c.len-count.ensures.len))).0

pub returns-then-number-count-clause-last : goal.returns-then-number-count-clause-last
returns-then-number-count-clause-last c =
    let named = link-is c.args.table.now c.args.number c.get-before.result c.get-before.ensures in
    let long = length-map c.args.table.now (λ (u : PartEntry). u.extent) in
    (last-left (extents_of c.args.table.now) (links_of c.args.table.now) c.args.number c.get-before.result.link c.requires.linked c.requires.there named (omega (arith, long, c.if-number-count.true, c.len-count.ensures.len))).1

pub returns-then-number-count-clause-linked : goal.returns-then-number-count-clause-linked
returns-then-number-count-clause-linked c =
    let named = link-is c.args.table.now c.args.number c.get-before.result c.get-before.ensures in
    last-linked (extents_of c.args.table.now) (links_of c.args.table.now) c.args.number c.get-before.result.link c.requires.linked c.requires.there named

pub set_behind-requires : goal.set_behind-requires
set_behind-requires c =
    let named = link-is c.args.table.now c.args.number c.get-before.result c.get-before.ensures in
    let before = before-within (extents_of c.args.table.now) (links_of c.args.table.now) c.args.number c.get-before.result.link c.requires.linked c.requires.there named in
    let within = within-extents (extents_of c.args.table.now) (links_of c.args.table.now) c.args.number c.get-before.result.link c.requires.linked c.requires.there named in
    omega (arith, before, within, c.if-before-gt0.true, length-map c.args.table.now (λ (u : PartEntry). u.extent))

pub set_before-requires : goal.set_before-requires
set_before-requires c =
    let named = link-is c.args.table.now c.args.number c.get-before.result c.get-before.ensures in
    let long = length-map c.args.table.now (λ (u : PartEntry). u.extent) in
    let within = within-extents (extents_of c.args.table.now) (links_of c.args.table.now) c.args.number c.get-before.result.link c.requires.linked c.requires.there named in
    let behind = behind-within (extents_of c.args.table.now) (links_of c.args.table.now) c.args.number c.get-before.result.link c.requires.linked c.requires.there named c.requires.ends (omega (arith, within, long, c.if-number-count.false, c.len-count.ensures.len)) in
    let many = length-map c.args.table.now (λ (u : PartEntry). u.link) in
    elim c.if-before-gt0.branch [
      | then-before-gt0 w ↦ omega (arith, behind.1, many, long, ap length w.table-is, ap length w.set_behind.ensures.extents, length-map w.set_behind.new.table (λ (u : PartEntry). u.extent), as-many 0 0 0 (extents_of c.args.table.now) (links_of c.args.table.now) c.requires.linked)
      | else-before-gt0 w ↦ omega (arith, behind.1, many, ap length w.table-is)
    ]

pub returns-clause-kept : goal.returns-clause-kept
returns-clause-kept c =
    let long = length-map c.args.table.now (λ (u : PartEntry). u.extent) in
    let whole = take_all c.len-count.result (emptied_at (extents_of c.args.table.now) c.args.number) (omega (arith, length-emptied (extents_of c.args.table.now) c.args.number, long, c.len-count.ensures.len)) in
    rw whole refl

pub returns-clause-last : goal.returns-clause-last
returns-clause-last c =
    let named = link-is c.args.table.now c.args.number c.get-before.result c.get-before.ensures in
    let long = length-map c.args.table.now (λ (u : PartEntry). u.extent) in
    let within = within-extents (extents_of c.args.table.now) (links_of c.args.table.now) c.args.number c.get-before.result.link c.requires.linked c.requires.there named in
    let whole = take_all c.len-count.result (emptied_at (extents_of c.args.table.now) c.args.number) (omega (arith, length-emptied (extents_of c.args.table.now) c.args.number, long, c.len-count.ensures.len)) in
    rw whole (ends-emptied c.args.number (extents_of c.args.table.now) (omega (arith, within, long, c.if-number-count.false, c.len-count.ensures.len)) c.requires.ends)

pub returns-clause-linked : goal.returns-clause-linked
returns-clause-linked c =
    let named = link-is c.args.table.now c.args.number c.get-before.result c.get-before.ensures in
    let long = length-map c.args.table.now (λ (u : PartEntry). u.extent) in
    let within = within-extents (extents_of c.args.table.now) (links_of c.args.table.now) c.args.number c.get-before.result.link c.requires.linked c.requires.there named in
    let linked = rest-linked (extents_of c.args.table.now) (links_of c.args.table.now) c.args.number c.get-before.result.link c.requires.linked c.requires.there named (links_of c.if-before-gt0.table) c.requires.ends (omega (arith, within, long, c.if-number-count.false, c.len-count.ensures.len))
    (λ some. elim c.if-before-gt0.branch [
      | then-before-gt0 w ↦ ap links_of w.table-is ∙ w.set_behind.ensures.links
      | else-before-gt0 w ↦ absurd (omega (arith, w.if-before-gt0.false))
    ])
    (λ none. elim c.if-before-gt0.branch [
      | then-before-gt0 w ↦ absurd (omega (arith, w.if-before-gt0.true))
      | else-before-gt0 w ↦ ap links_of w.table-is
    ]) in
    rw c.set_before.ensures.links (linked-take c.len-count.result 0 0 0 _ _ linked)
