use Rattle.std.proofs.Common.{rules, Some, subst}
use Rattle.std.specs.Prelude.{ℤ, Option}
use Rattle.far_types.specs.declared.key.Key.TheVariants.{Int}
use Rattle.far_types.proofs.AnswersByKeyMaps.{sorted_distinct}
use Rattle.far_extrema.specs.Holders.{Holding, AreCleared}
use Rattle.far_extrema.specs.Entries.{numbered}
use Rattle.far_extrema.proofs.EntriesLaws.{ascending_numbers, get_number}
use Rattle.far_extrema.specs.Numbers.{number_at}
use Rattle.far_extrema.proofs.NumbersLaws.{gone_from}
use Rattle.far_extrema.proofs.HoldersReserve.{cleared-all}
use Rattle.far_extrema.proofs.number_tree.clear_all.Goals as goal

pub returns-clause-cleared : goal.returns-clause-cleared
returns-clause-cleared c n =
    let old = c.args.tree.now.entries in
    let new = c.retain.new.self.entries in
    let all = cleared-all (λ (m : ℤ). Some (Int m)) _ c.args.group _ (λ k v b w f' t. search rules) old new (sorted_distinct (numbered old) (ascending_numbers old c.retain.ensures.was_ordered)) c.retain.ensures.filtered in
    subst (λ (both : Option Holding × Option Holding). AreCleared c.args.group both.0 both.1) (λ i. (get_number old n i, get_number new n i)) (all (Some (Int n)))

pub returns-clause-gone : goal.returns-clause-gone
returns-clause-gone c n none = gone_from (number_at c.retain.new.self.entries n) (number_at c.args.tree.now.entries n) (c.retain.ensures.no_new_key n) none
