use Rattle.std.proofs.Common.{subst}
use Rattle.far_codec.specs.Spelling.{IsSpelled}
use Rattle.far_scopes.specs.Movement.{AreTracked}
use Rattle.far_scopes.proofs.ColdestLaws.{last-within}
use Rattle.far_scopes.proofs.objects.Objects.first_cold.Goals as goal

pub pins-requires-after_bounds : goal.pins-requires-after_bounds
pins-requires-after_bounds g c κs within =
    let tracked = subst (AreTracked g.T.Elem.meaning g.S.FarTickets.content (IsSpelled g.T.Elem.in_range g.T.Elem.has_spelling g.T.Elem.spelling)) c.self.view_is c.self.invariant in
    last-within c.args.self.now c.loop-o.rest c.next.new.self c.loop-o.invariant.1.0 _ c.in-Some.ensures.last tracked c.loop-o.invariant.1.1

pub word-requires-after_bounds : goal.word-requires-after_bounds
word-requires-after_bounds g c κs within =
    let tracked = subst (AreTracked g.T.Elem.meaning g.S.FarTickets.content (IsSpelled g.T.Elem.in_range g.T.Elem.has_spelling g.T.Elem.spelling)) c.self.view_is c.self.invariant in
    last-within c.args.self.now c.loop-o.rest c.next.new.self c.loop-o.invariant.1.0 _ c.in-Some.ensures.last tracked c.loop-o.invariant.1.1
