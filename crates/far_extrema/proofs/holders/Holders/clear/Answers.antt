use Rattle.std.proofs.Common.{◌==◌, cond, sym, ◌∙◌, subst}
use Rattle.std.specs.FinMap as fin
use Rattle.far_types.specs.Keys.{line_cmp}
use Rattle.far_extrema.specs.Holders.{Holders, holders_of, min_max_in, AreAllCleared}
use Rattle.far_extrema.specs.Entries.{entries_in}
use Rattle.far_extrema.proofs.EntriesLaws.{cleared_in}
use Rattle.far_extrema.proofs.holders.Holders.clear.Goals as goal

pub returns : goal.returns
returns c =
    let h = c.self.inside in
    let plain = c.clear_plain.new.plain in
    let numbers = c.clear.new.self in
    let texts = c.clear_all.new.texts.entries in
    let each = cleared_in c.args.group h.plain plain h.numbers numbers h.texts.entries texts c.clear_plain.ensures c.clear.ensures c.clear_all.ensures in
    let cleared = subst (λ (m : Holders). AreAllCleared c.args.group m (holders_of (entries_in plain numbers texts))) c.self.view_is each in
    record {
      min_maxes = λ g q. (cleared q).0 g ∙ (λ i. cond (g == c.args.group) (sym (fin.get-empty line_cmp q) i) (min_max_in (fin.get c.args.self.now q) g));
      reserved = λ q. (cleared q).1;
    }
