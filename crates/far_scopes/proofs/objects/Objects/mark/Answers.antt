use Rattle.std.proofs.Common.{◌≡◌, ◌<◌, ℕ, length, true, refl, sym, ap, subst, arith}
use Rattle.far_scopes.specs.Memory.{list_in}
use Rattle.far_scopes.specs.Placing.{after_mark}
use Rattle.far_scopes.specs.Movement.{AreClean, is_local, version_of}
use Rattle.far_scopes.proofs.MemoryWordPlaces.{word-read}
use Rattle.far_scopes.proofs.MovementTouches.{tracked-after_write, clean-after_write, lists-same, dirty-after_write, local-still}
use Rattle.far_scopes.proofs.RefusingLaws.{local-after_write, left-after_write}
use Rattle.far_scopes.proofs.objects.Objects.mark.Goals as goal

pub invariant_of-self : goal.invariant_of-self
invariant_of-self g c =
    let within = subst (λ m. c.args.o < length m.records) (sym c.self.view_is) c.requires.within in
    let was = word-read c.self.inside.records.items c.args.o c.index_mut.result.now within c.index_mut.ensures.value in
    let local = subst (λ m. is_local m c.args.o ≡ true) (sym c.self.view_is) (local-after_write c.args.self.now c.args.o c.requires.free) in
    let version : version_of c.args.self.now c.args.o ≡ c.index_mut.result.now.version = rw (← c.self.view_is, was) refl in
    let left : c.index_mut.result.now.version < c.self.inside.max_writes = omega (arith, left-after_write c.args.self.now c.args.o c.requires.free, version, ap (λ m. m.max_writes) c.self.view_is) in
    let lists : (p : ℕ) → list_in (after_mark c.self.inside.memory c.args.o) p ≡ list_in c.self.inside.memory p = subst (λ memory. (p : ℕ) → list_in memory p ≡ list_in c.self.inside.memory p) c.mark.ensures.marked c.mark.ensures.lists in
    rw (c.mark.ensures.marked, c.touch.ensures) (tracked-after_write g.T.Elem.meaning g.S.FarTickets.content _ _ c.self.invariant c.args.o c.index_mut.result.now was local left lists)

pub returns-clause-written : goal.returns-clause-written
returns-clause-written g c =
    let within = subst (λ m. c.args.o < length m.records) (sym c.self.view_is) c.requires.within in
    let was = word-read c.self.inside.records.items c.args.o c.index_mut.result.now within c.index_mut.ensures.value in
    rw (c.mark.ensures.marked, c.touch.ensures, ← c.self.view_is, was) refl

pub returns-clause-dirty : goal.returns-clause-dirty
returns-clause-dirty g c =
    let within = subst (λ m. c.args.o < length m.records) (sym c.self.view_is) c.requires.within in
    let was = word-read c.self.inside.records.items c.args.o c.index_mut.result.now within c.index_mut.ensures.value in
    let local = subst (λ m. is_local m c.args.o ≡ true) (sym c.self.view_is) (local-after_write c.args.self.now c.args.o c.requires.free) in
    let version : version_of c.args.self.now c.args.o ≡ c.index_mut.result.now.version = rw (← c.self.view_is, was) refl in
    let left : c.index_mut.result.now.version < c.self.inside.max_writes = omega (arith, left-after_write c.args.self.now c.args.o c.requires.free, version, ap (λ m. m.max_writes) c.self.view_is) in
    let lists : (p : ℕ) → list_in (after_mark c.self.inside.memory c.args.o) p ≡ list_in c.self.inside.memory p = subst (λ memory. (p : ℕ) → list_in memory p ≡ list_in c.self.inside.memory p) c.mark.ensures.marked c.mark.ensures.lists in
    rw c.mark.ensures.marked (dirty-after_write g.T.Elem.meaning g.S.FarTickets.content _ _ c.self.invariant c.args.o c.index_mut.result.now was local left lists)

pub returns-clause-local : goal.returns-clause-local
returns-clause-local g c =
    let within = subst (λ m. c.args.o < length m.records) (sym c.self.view_is) c.requires.within in
    let was = word-read c.self.inside.records.items c.args.o c.index_mut.result.now within c.index_mut.ensures.value in
    let local = subst (λ m. is_local m c.args.o ≡ true) (sym c.self.view_is) (local-after_write c.args.self.now c.args.o c.requires.free) in
    let version : version_of c.args.self.now c.args.o ≡ c.index_mut.result.now.version = rw (← c.self.view_is, was) refl in
    let left : c.index_mut.result.now.version < c.self.inside.max_writes = omega (arith, left-after_write c.args.self.now c.args.o c.requires.free, version, ap (λ m. m.max_writes) c.self.view_is) in
    let lists : (p : ℕ) → list_in (after_mark c.self.inside.memory c.args.o) p ≡ list_in c.self.inside.memory p = subst (λ memory. (p : ℕ) → list_in memory p ≡ list_in c.self.inside.memory p) c.mark.ensures.marked c.mark.ensures.lists in
    rw c.mark.ensures.marked (local-still g.T.Elem.meaning g.S.FarTickets.content _ _ c.self.invariant c.args.o c.index_mut.result.now was local left lists)

pub returns-clause-parts : goal.returns-clause-parts
returns-clause-parts g c = rw (← c.self.view_is) c.mark.ensures.lists

pub returns-clause-lists : goal.returns-clause-lists
returns-clause-lists g c =
    let within = subst (λ m. c.args.o < length m.records) (sym c.self.view_is) c.requires.within in
    let was = word-read c.self.inside.records.items c.args.o c.index_mut.result.now within c.index_mut.ensures.value in
    let local = subst (λ m. is_local m c.args.o ≡ true) (sym c.self.view_is) (local-after_write c.args.self.now c.args.o c.requires.free) in
    let version : version_of c.args.self.now c.args.o ≡ c.index_mut.result.now.version = rw (← c.self.view_is, was) refl in
    let left : c.index_mut.result.now.version < c.self.inside.max_writes = omega (arith, left-after_write c.args.self.now c.args.o c.requires.free, version, ap (λ m. m.max_writes) c.self.view_is) in
    let lists : (p : ℕ) → list_in (after_mark c.self.inside.memory c.args.o) p ≡ list_in c.self.inside.memory p = subst (λ memory. (p : ℕ) → list_in memory p ≡ list_in c.self.inside.memory p) c.mark.ensures.marked c.mark.ensures.lists in
    rw (c.mark.ensures.marked, ← c.self.view_is) (lists-same g.T.Elem.meaning g.S.FarTickets.content _ _ c.self.invariant c.args.o c.index_mut.result.now was local left lists)

pub returns-clause-clean : goal.returns-clause-clean
returns-clause-clean g c =
    let within = subst (λ m. c.args.o < length m.records) (sym c.self.view_is) c.requires.within in
    let was = word-read c.self.inside.records.items c.args.o c.index_mut.result.now within c.index_mut.ensures.value in
    let local = subst (λ m. is_local m c.args.o ≡ true) (sym c.self.view_is) (local-after_write c.args.self.now c.args.o c.requires.free) in
    let version : version_of c.args.self.now c.args.o ≡ c.index_mut.result.now.version = rw (← c.self.view_is, was) refl in
    let left : c.index_mut.result.now.version < c.self.inside.max_writes = omega (arith, left-after_write c.args.self.now c.args.o c.requires.free, version, ap (λ m. m.max_writes) c.self.view_is) in
    let lists : (p : ℕ) → list_in (after_mark c.self.inside.memory c.args.o) p ≡ list_in c.self.inside.memory p = subst (λ memory. (p : ℕ) → list_in memory p ≡ list_in c.self.inside.memory p) c.mark.ensures.marked c.mark.ensures.lists in
    λ clean. rw c.mark.ensures.marked (clean-after_write g.T.Elem.meaning g.S.FarTickets.content _ _ c.self.invariant c.args.o c.index_mut.result.now was local left lists (subst (AreClean g.T.Elem.meaning g.S.FarTickets.content) (sym c.self.view_is) clean))
