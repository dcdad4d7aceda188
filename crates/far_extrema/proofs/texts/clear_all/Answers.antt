use Rattle.std.proofs.Common.{rules}
use Rattle.far_types.proofs.AnswersByKeyMaps.{sorted_distinct}
use Rattle.far_extrema.specs.Entries.{texted}
use Rattle.far_extrema.proofs.EntriesLaws.{ascending_texts}
use Rattle.far_extrema.proofs.HoldersReserve.{cleared-all}
use Rattle.far_extrema.proofs.texts.clear_all.Goals as goal

pub returns : goal.returns
returns c =
    let old = c.args.texts.now.entries in
    cleared-all _ _ c.args.group _ (λ k v b w f' t. search rules) old c.retain.new.self.entries (sorted_distinct (texted old) (ascending_texts old c.retain.ensures.was_ordered)) c.retain.ensures.filtered
