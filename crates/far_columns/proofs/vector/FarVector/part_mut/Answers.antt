use Rattle.std.proofs.Common.{◌≡◌, ℕ, ◌+◌, ◌-◌, ◌*◌, ◌%◌, ◌/◌, ◌<◌, ◌≤◌, List, ◌++◌, length, take, drop, Option, None, refl, sym, ap, subst, ◌∙◌, arith}
use Rattle.std.specs.Prelude.{IsSomeAnd, slice_range}
use Rattle.far_scopes.specs.Memory.{list_in}
use Rattle.far_scopes.specs.Movement.{Movement, list_of, AreClean, AreHere, ChangesObject}
use Rattle.far_scopes.specs.Refusing.{write_refusal}
use Rattle.far_scopes.specs.Effects.{after_write, after_overwrite}
use Rattle.far_columns.specs.Vector.{Vector, IsShaped, KeepsOthers, WritesPlaces, elements, object_at}
use Rattle.far_columns.specs.Effects.{after_write_range}
use Rattle.far_columns.proofs.RefusingLaws.{within-written, group-written, free-written}
use Rattle.far_columns.proofs.VectorLaws.{part-fits}
use Rattle.far_columns.proofs.VectorWrites.{elements-after_write}
use Rattle.far_columns.proofs.VectorChanges.{changed-written}
use Rattle.far_columns.proofs.VectorRanges.{some-weaker, at-place, range-lent, Changes, after_write-is, changes-is, others-range, places-range}
use Rattle.far_columns.proofs.vector.FarVector.part_mut.Given.{Over}
use Rattle.far_columns.proofs.vector.FarVector.part_mut.Goals as goal

pub writable_at-o-requires-clause-within : goal.writable_at-o-requires-clause-within
writable_at-o-requires-clause-within g c κs there =
    let shaped = subst (λ (v : Vector g.row.T.Denot). IsShaped v) c.vector.view_is c.vector.invariant.shaped in
    omega (arith, c.requires.some, within-written c.args.vector.now c.args.from c.args.to c.args.objects.now c.requires.free c.requires.some, shaped.enough)

pub writable_at-o-requires-clause-free : goal.writable_at-o-requires-clause-free
writable_at-o-requires-clause-free g c κs there = free-written c.args.vector.now c.args.from c.args.to c.args.objects.now c.requires.free c.requires.some

pub lend_range_mut-requires-clause-free : goal.lend_range_mut-requires-clause-free
lend_range_mut-requires-clause-free g c κs there = subst (λ o. write_refusal c.args.objects.now o ≡ None) (sym c.writable_at-o.ensures.object) (free-written c.args.vector.now c.args.from c.args.to c.args.objects.now c.requires.free c.requires.some)

pub lend_range_mut-requires-clause-there : goal.lend_range_mut-requires-clause-there
lend_range_mut-requires-clause-there g c κs there =
    let size : c.vector.inside.size ≡ c.args.vector.now.size = ap (λ (v : Vector g.row.T.Denot). v.size) c.vector.view_is in
    let shaped = subst (λ (v : Vector g.row.T.Denot). IsShaped v) c.vector.view_is c.vector.invariant.shaped in
    let same = group-written c.args.vector.now c.args.from c.args.to c.args.objects.now c.requires.free c.requires.some in
    let fits = subst (λ n. c.args.from % n + (c.args.to - c.args.from) ≤ n) (sym size) (part-fits c.args.vector.now.size c.args.from c.args.to shaped.some c.requires.some same) in
    some-weaker (list_in c.args.objects.now.memory c.writable_at-o.result) c.writable_at-o.ensures.list (λ list long. omega (arith, long, size, fits))

module _ (g : Over) (c : goal.After-lend_range_mut g) where
  abbrev lists : Movement g.row.T.Denot g.row.S-Ticket.Denot → ℕ → Option (List g.row.T.Denot)
  lists m = list_of g.T.Elem.meaning g.S.FarTickets.content m

  abbrev was : Movement g.row.T.Denot g.row.S-Ticket.Denot
  was = c.args.objects.now

  abbrev v : Vector g.row.T.Denot
  v = c.args.vector.now

  abbrev o : ℕ
  o = object_at c.args.vector.now c.args.from

  size-is : c.vector.inside.size ≡ c.args.vector.now.size
  size-is = ap (λ (v : Vector g.row.T.Denot). v.size) c.vector.view_is

  shaped : IsShaped c.args.vector.now
  shaped = subst (λ (v : Vector g.row.T.Denot). IsShaped v) c.vector.view_is c.vector.invariant.shaped

  within : c.args.to ≤ c.args.vector.now.len
  within = within-written v c.args.from c.args.to was c.requires.free c.requires.some

  same : c.args.from / c.args.vector.now.size ≡ (c.args.to - 1) / c.args.vector.now.size
  same = group-written v c.args.from c.args.to was c.requires.free c.requires.some

  inside : c.args.from < length c.args.vector.now.objects * c.args.vector.now.size
  inside = omega (arith, c.requires.some, within, shaped.enough)

  fits : c.args.from % c.args.vector.now.size + (c.args.to - c.args.from) ≤ c.args.vector.now.size
  fits = part-fits c.args.vector.now.size c.args.from c.args.to shaped.some c.requires.some same

  there : IsSomeAnd (list_in c.args.objects.now.memory (object_at c.args.vector.now c.args.from)) (λ list. length list ≡ c.args.vector.now.size)
  there = subst (λ p. IsSomeAnd (list_in c.args.objects.now.memory p) (λ list. length list ≡ c.args.vector.now.size)) c.writable_at-o.ensures.object c.writable_at-o.ensures.list

  changes : Changes g.T.Elem.meaning g.S.FarTickets.content c.args.objects.now c.args.vector.now c.args.from (object_at c.args.vector.now c.args.from) c.args.vector.now.size (c.args.to - c.args.from)
  changes = changes-is g.T.Elem.meaning g.S.FarTickets.content was v c.args.from c.writable_at-o.result c.vector.inside.size (c.args.to - c.args.from) c.writable_at-o.ensures.object size-is c.lend_range_mut.ensures.alone

  is-after_write : (range : List g.row.T.Denot) → after_overwrite (after_write c.args.objects.now c.writable_at-o.result) c.writable_at-o.result (c.args.from % c.vector.inside.size) range ≡ after_write_range c.args.objects.now c.args.vector.now c.args.from range
  is-after_write range = after_write-is g.T.Elem.meaning g.S.FarTickets.content was v c.args.from c.writable_at-o.result c.vector.inside.size range range c.writable_at-o.ensures.object size-is refl

  lent : c.lend_range_mut.result.now ≡ slice_range (elements (list_of g.T.Elem.meaning g.S.FarTickets.content c.args.objects.now) c.args.vector.now) c.args.from c.args.to
  lent = range-lent g.T.Elem.meaning g.S.FarTickets.content was v shaped c.requires.is c.args.from c.args.to c.requires.some within same c.lend_range_mut.result.now
      (at-place g.T.Elem.meaning g.S.FarTickets.content was v (λ p size. IsSomeAnd (list_in c.args.objects.now.memory p) (λ list. c.lend_range_mut.result.now ≡ slice_range list (c.args.from % size) (c.args.from % size + (c.args.to - c.args.from)))) c.args.from c.writable_at-o.result c.vector.inside.size c.writable_at-o.ensures.object size-is c.lend_range_mut.ensures.lent)

  module _ (range : List g.row.T.Denot) (long : length range ≡ c.args.to - c.args.from) where
    abbrev now : Movement g.row.T.Denot g.row.S-Ticket.Denot
    now = after_write_range c.args.objects.now c.args.vector.now c.args.from range

    places : WritesPlaces (list_of g.T.Elem.meaning g.S.FarTickets.content c.args.objects.now) (list_of g.T.Elem.meaning g.S.FarTickets.content now) c.args.vector.now c.args.from range
    places = places-range g.T.Elem.meaning g.S.FarTickets.content was v shaped c.requires.is c.args.from (c.args.to - c.args.from) inside fits there changes range long

    others : KeepsOthers (list_of g.T.Elem.meaning g.S.FarTickets.content c.args.objects.now) (list_of g.T.Elem.meaning g.S.FarTickets.content now) (object_at c.args.vector.now c.args.from)
    others = others-range g.T.Elem.meaning g.S.FarTickets.content was v shaped c.requires.is c.args.from (c.args.to - c.args.from) inside fits there changes range long

    elements-are : elements (lists now) v ≡ take c.args.from (elements (lists was) v) ++ (range ++ drop c.args.to (elements (lists was) v))
    elements-are =
        elements-after_write (lists was) (lists now) v shaped c.requires.is c.args.from range places (omega (arith, long, within, c.requires.some))
        ∙ ap (λ n. take c.args.from (elements (lists was) v) ++ (range ++ drop n (elements (lists was) v))) (let e : c.args.from + length range ≡ c.args.to = omega (arith, long, c.requires.some) in e)

pub returns : goal.returns
returns g c = (
  (refl, is-after_write g c),
  record {
    writes_back = tt;
    lent = lent g c;
    written = λ range long. record {
      elements = elements-are g c range long;
      vector = changed-written (lists g c (was g c)) (lists g c (now g c range long)) (v g c) (shaped g c) c.requires.is c.args.from range (places g c range long) (others g c range long) (inside g c) (omega (arith, long, within g c, c.requires.some));
      lists = others g c range long;
      clean = λ clean. subst (λ (m : Movement g.row.T.Denot g.row.S-Ticket.Denot). AreClean g.T.Elem.meaning g.S.FarTickets.content m) (is-after_write g c range) (c.lend_range_mut.ensures.keeps.clean range (omega (arith, long)) clean);
    };
    others = λ range. at-place g.T.Elem.meaning g.S.FarTickets.content c.args.objects.now c.args.vector.now (λ p size. ChangesObject c.args.objects.now (after_overwrite (after_write c.args.objects.now p) p (c.args.from % size) range) p) c.args.from c.writable_at-o.result c.vector.inside.size c.writable_at-o.ensures.object (size-is g c) (c.lend_range_mut.ensures.keeps.others range);
    store = λ range id here. subst (λ (m : Movement g.row.T.Denot g.row.S-Ticket.Denot). AreHere g.S.FarTickets.is_of id m) (is-after_write g c range) (c.lend_range_mut.ensures.keeps.store range id here);
  },
)
