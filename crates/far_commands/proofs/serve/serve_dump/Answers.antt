use Rattle.std.proofs.Common.{Option, refl, ap, subst}
use Rattle.std.specs.Option.{option_map_or}
use Rattle.far_types.specs.declared.refusal.Refusal.{Refusal}
use Rattle.far_frame.specs.State.{live}
use Rattle.far_frame.specs.TableViews.{IsKept}
use Rattle.far_frame.proofs.TableListing.{all-due}
use Rattle.far_script.specs.Printing.{refusal_text}
use Rattle.far_commands.specs.Listings.{dump_text, listing_of}
use Rattle.far_commands.proofs.ResultLaws.{on-ok}
use Rattle.far_commands.proofs.serve.serve_dump.Goals as goal

pub returns-clause-ok : goal.returns-clause-ok
returns-clause-ok g c =
    let s = c.args.world.now.state in
    let kept = subst (IsKept g.S.FarTickets.content) c.frame-frame.ensures c.keeps.ensures in
    let listed = ap (λ (why : Option Refusal). option_map_or refusal_text why (dump_text s.table)) (all-due g.S.FarTickets.content s kept) in
    on-ok c.dump.result _ _ (λ said. (listing_of (live s), said, (refl, (refl, listed), refl))) (rw c.frame-frame.ensures at c.dump.ensures.ok)

pub returns-clause-err : goal.returns-clause-err
returns-clause-err g c = rw c.frame-frame.ensures at c.dump.ensures.err
