use Rattle.std.proofs.Common.{ℕ, ◌≡◌, refl, arith, replicate}
use Rattle.std.proofs.lemmas.List.{length-replicate}
use Rattle.far_log.proofs.StackingLaws.{stacks-none, within-none}
use Rattle.far_log.proofs.stacks.Stacks.new.Goals as goal

pub invariant_of-result : goal.invariant_of-result
invariant_of-result g c =
    let zeros : c.in_ok-lens.lens.items ≡ replicate c.args.count 0 = c.in_ok-lens.ensures.items_if_clones_equal (λ y same. same) in
    rw (c.in_ok-items.ensures.items, zeros) record {
      within = within-none c.args.size 0 c.args.count;
      reserved = rw (length-replicate {A = ℕ} c.args.count 0) (omega (arith, c.in_ok-items.ensures.exact, c.begin_of.ensures.begin));
      few = omega (arith, length-replicate {A = ℕ} c.args.count 0, c.requires);
      small = omega arith;
    }

pub returns-clause-empty : goal.returns-clause-empty
returns-clause-empty g c =
    let zeros : c.in_ok-lens.lens.items ≡ replicate c.args.count 0 = c.in_ok-lens.ensures.items_if_clones_equal (λ y same. same) in
    rw (c.in_ok-items.ensures.items, zeros, stacks-none c.args.size 0 c.args.count) refl
