use Rattle.std.proofs.Common.{◌≡◌, ◌<◌, get_or, length, sym, ap, subst, ◌∙◌}
use Rattle.far_scopes.proofs.EnteringPins.{length-after_pin_all}
use Rattle.far_scopes.specs.Movement.{list_of, AreHere}
use Rattle.far_scopes.proofs.MovementFrames.{here-after_pin_all}
use Rattle.far_scopes.proofs.MovementRecords.{lists-after_pin_all}
use Rattle.far_scopes.proofs.objects.Objects.enter.Goals as goal

pub unpin_all-requires-after_bounds : goal.unpin_all-requires-after_bounds
unpin_all-requires-after_bounds g c =
    λ κs le k d within. subst (λ n. get_or c.args.objects.now k d < n) (sym (ap (λ m. length m.records) c.in_ok-pin_all.ensures.pinned ∙ length-after_pin_all c.args.self.now c.args.objects.now)) (c.requires.within k d within)

pub returns-in-Ok-clause-keeps : goal.returns-in-Ok-clause-keeps
returns-in-Ok-clause-keeps g c = record {
  lists = λ p. subst (λ m. list_of g.T.Elem.meaning g.S.FarTickets.content m p ≡ list_of g.T.Elem.meaning g.S.FarTickets.content c.args.self.now p) (sym c.in_ok-pin_all.ensures.pinned) (lists-after_pin_all g.T.Elem.meaning g.S.FarTickets.content c.args.self.now c.args.objects.now p);
  copies = record {
    clean = c.in_ok-pin_all.ensures.clean;
    store = λ id here. subst (AreHere g.S.FarTickets.is_of id) (sym c.in_ok-pin_all.ensures.pinned) (here-after_pin_all g.S.FarTickets.is_of id c.args.self.now c.args.objects.now here);
  };
}
