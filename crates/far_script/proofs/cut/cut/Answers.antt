use Rattle.std.proofs.Common.{◌≡◌, ◌==◌, get_or, length, arith, rules}
use Rattle.std.specs.List.{position_or_len}
use Rattle.std.proofs.lemmas.Bool.{ne_eqb, eq-eqb}
use Rattle.std.proofs.lemmas.List.Sums.{position_or_len_is}
use Rattle.std.proofs.lemmas.Str.{IsCharBoundary-after_ascii}
use Rattle.far_script.proofs.cut.cut.Goals as goal

pub range_from-requires : goal.range_from-requires
range_from-requires c _ =
    let here : get_or c.args.text.now c.in-Some.at 0 ≡ c.args.wanted = search rules in
    IsCharBoundary-after_ascii _ _ c.utf8.text (search rules) (omega (arith, here, c.requires))

pub returns-in-Some : goal.returns-in-Some
returns-in-Some c =
    let text = c.args.text.now in
    let place : position_or_len (λ b. b == c.args.wanted) text ≡ c.in-Some.at = position_or_len_is (λ b. b == c.args.wanted) text c.in-Some.at 0 (search rules) (λ k low. ne_eqb _ _ (search rules)) (λ low. eq-eqb _ _ (search rules)) in
    rw place (search rules)

pub returns-in-None : goal.returns-in-None
returns-in-None c =
    let text = c.args.text.now in
    position_or_len_is (λ b. b == c.args.wanted) text (length text) 0 (omega arith) (λ k low. ne_eqb _ _ (search rules)) (λ low. absurd (omega (arith, low)))
