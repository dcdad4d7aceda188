use Rattle.std.proofs.Common.{◌≡◌, ℕ, List, IsTrue, refl, sym, subst, ◌∙◌, true≢false}
use Rattle.far_sessions.specs.Closing.{IsWhole}
use Rattle.far_sessions.specs.Known.{Known}
use Rattle.far_shared.proofs.closing.close.Goals as goal

moved : (n m : ℕ) (xs ys : List Known) → n ≡ m → xs ≡ ys → IsWhole n xs → IsWhole m ys
moved n m xs ys e f w = subst (λ l. IsWhole m l) f (subst (λ k. IsWhole k xs) e w)

pub returns-clause-whole : goal.returns-clause-whole
returns-clause-whole g c =
    let yes : IsTrue c.are_whole.result = c.if-not-are_whole.false in
    moved _ _ _ _ c.args.shared.count.is c.deref.ensures.value (c.are_whole.ensures.0 yes)

pub returns-then-not-are_whole-clause-missing : goal.returns-then-not-are_whole-clause-missing
returns-then-not-are_whole-clause-missing g c =
    (refl, λ w. let back = moved _ _ _ _ (sym c.args.shared.count.is) (sym c.deref.ensures.value) w in true≢false (sym (c.are_whole.ensures.1 back) ∙ c.if-not-are_whole.true))
