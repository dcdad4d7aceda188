use Rattle.std.proofs.Common.{◌≡◌, ◌++◌, ◌∷◌, [], length, ap, ◌∙◌, arith}
use Rattle.std.proofs.lemmas.List.{length-map, map_push}
use Rattle.far_log.specs.declared.part_entry.PartEntry.{PartEntry}
use Rattle.far_log.specs.Storage.{extents_of, links_of}
use Rattle.far_log.proofs.StorageLinks.{last-named}
use Rattle.far_log.proofs.links.push_linked.Goals as goal

pub returns-then-number-gt0-clause-linked : goal.returns-then-number-gt0-clause-linked
returns-then-number-gt0-clause-linked c =
    let long : c.len-number.result ≡ length (links_of c.args.table.now) = omega (arith, c.len-number.ensures.len, length-map c.args.table.now (λ (u : PartEntry). u.link)) in
    let extents : extents_of c.push.new.self ≡ extents_of c.args.table.now ++ c.args.extent ∷ [] = ap extents_of c.in_ok-push.ensures.pushed ∙ map_push (λ (u : PartEntry). u.extent) c.args.table.now _ in
    let links : links_of c.push.new.self ≡ links_of c.args.table.now ++ record { before = c.len-number.result; behind = 0 } ∷ [] = ap links_of c.in_ok-push.ensures.pushed ∙ map_push (λ (u : PartEntry). u.link) c.args.table.now _ in
    rw (c.set_behind.ensures.extents, c.set_behind.ensures.links, extents, links, long)
    (last-named (extents_of c.args.table.now) c.args.extent (links_of c.args.table.now) c.requires.linked c.requires.ends (omega (arith, long, c.if-number-gt0.true)))
