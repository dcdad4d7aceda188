use Rattle.std.proofs.Common.{◌≡◌, ◌+◌, ◌∷◌, suc, None, get_or, take, drop, length, sym, ap, ◌∙◌, arith}
use Rattle.std.proofs.lemmas.List.{at_drop_more}
use Rattle.std.proofs.Math.Seq.{take-suc}
use Rattle.far_scopes.specs.Effects.{after_pin}
use Rattle.far_scopes.specs.Refusing.{first_absent}
use Rattle.far_scopes.specs.Entering.{after_pin_all, pins_overflow}
use Rattle.far_scopes.proofs.EnteringPins.{after_pin_all-last, length-with}
use Rattle.far_scopes.proofs.EnteringRefusals.{first-local, first_absent-after_pin, overflow-now, overflow-later}
use Rattle.far_scopes.proofs.objects.Objects.pin_all.Goals as goal

pub returns-in-Err-clause-refused : goal.returns-in-Err-clause-refused
returns-in-Err-clause-refused g c =
    let o = get_or c.args.objects.now c.loop-k.k 0 in
    let rest = drop (c.loop-k.k + 1) c.args.objects.now in
    let free : first_absent c.loop-k.self (o ∷ rest) ≡ None = sym (at_drop_more (first_absent c.loop-k.self) c.args.objects.now c.loop-k.k 0 c.loop-k-test.true) ∙ c.loop-k.invariant.3 in
    overflow-now c.loop-k.self o rest c.in-Err.refusal (first-local c.loop-k.self o rest free).0 c.in-Err.ensures.refused
    ∙ sym (c.loop-k.invariant.2 ∙ at_drop_more (pins_overflow c.loop-k.self) c.args.objects.now c.loop-k.k 0 c.loop-k-test.true)

pub loop-k-preserved : goal.loop-k-preserved
loop-k-preserved g c =
    let o = get_or c.args.objects.now c.loop-k.k 0 in
    let rest = drop (c.loop-k.k + 1) c.args.objects.now in
    let free : first_absent c.loop-k.self (o ∷ rest) ≡ None = sym (at_drop_more (first_absent c.loop-k.self) c.args.objects.now c.loop-k.k 0 c.loop-k-test.true) ∙ c.loop-k.invariant.3 in
    let local = first-local c.loop-k.self o rest free in
    let is = c.in_default.ensures.pinned in
    let next : suc c.loop-k.k ≡ c.loop-k.k + 1 = omega arith in (
      is ∙ ap (λ m. after_pin m o) c.loop-k.invariant.0 ∙ sym (after_pin_all-last c.args.self.now (take c.loop-k.k c.args.objects.now) o) ∙ ap (after_pin_all c.args.self.now) (sym (take-suc c.args.objects.now c.loop-k.k 0 c.loop-k-test.true) ∙ ap (λ n. take n c.args.objects.now) next),
      ap (λ m. length m.records) is ∙ length-with c.loop-k.self.records o _ ∙ c.loop-k.invariant.1,
      c.loop-k.invariant.2 ∙ at_drop_more (pins_overflow c.loop-k.self) c.args.objects.now c.loop-k.k 0 c.loop-k-test.true ∙ overflow-later c.loop-k.self o rest local.0 c.in_default.ensures.refused ∙ ap (λ m. pins_overflow m rest) (sym is),
      ap (λ m. first_absent m rest) is ∙ first_absent-after_pin c.loop-k.self o rest ∙ local.1,
      λ clean. c.in_default.ensures.keeps.copies.clean (c.loop-k.invariant.4 clean),
    )
