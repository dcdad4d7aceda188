use Rattle.std.proofs.Common.{◌≡◌, Some, sym, ap, ◌∙◌}
use Rattle.std.specs.FinMap as fin
use Rattle.far_extrema.specs.Spreads.{joined_to}
use Rattle.far_extrema.specs.Holders.{min_max_in}
use Rattle.far_extrema.proofs.HoldersLaws.{none_joined}
use Rattle.far_extrema.proofs.holders.top_under.Goals as goal

pub returns-in-Some : goal.returns-in-Some
returns-in-Some c count kept =
    let holders = c.args.holders.now in
    let key = c.args.key.now in
    let found : fin.get holders key ≡ Some c.in-Some.holder.now = sym c.in-Some.ensures in
    ap (λ o. joined_to count (λ g. min_max_in o g)) found
    ∙ c.top.ensures.top count (λ g past. ap (λ o. min_max_in o g) (sym found) ∙ kept g key past)

pub returns-in-None : goal.returns-in-None
returns-in-None c count kept =
    let found = sym c.in-None.ensures in
    ap (λ o. joined_to count (λ g. min_max_in o g)) found ∙ none_joined count
