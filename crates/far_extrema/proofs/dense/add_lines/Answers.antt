use Rattle.std.proofs.Common.{◌<◌, ◌+◌, ◌++◌, length, drop, Some, sym, ap, ◌∙◌, subst, arith}
use Rattle.std.specs.Prelude.{pos}
use Rattle.std.specs.List.{AllByRecursion}
use Rattle.far_types.specs.declared.key.Key.TheVariants.{Int}
use Rattle.far_extrema.specs.Spreads.{IsTopOf}
use Rattle.far_extrema.specs.Holders.{IsTopped}
use Rattle.far_extrema.specs.Entries.{numbered, lines_of}
use Rattle.far_extrema.specs.Numbers.{placed}
use Rattle.far_extrema.proofs.HoldersLaws.{line-skipped, line-pushed, none_of}
use Rattle.far_extrema.proofs.NumbersLines.{placed_step}
use Rattle.far_extrema.proofs.dense.add_lines.Goals as goal
use Rattle.far_extrema.proofs.dense.add_lines.Goals.{in-Some+in_ok-add_line, in_default}

pub loop-place-preserved : goal.loop-place-preserved
loop-place-preserved c =
    let hs = c.args.dense.now.items in
    let k = c.loop-place.place in
    let h = c.index.result.now in
    let within : k < length hs = omega (arith, c.loop-place-test.true, c.len-place-end.ensures, c.loop-place.auto.place-end) in
    let step = placed_step hs k h within c.index.ensures in
    let own = subst (IsTopOf h.min_maxes) c.top.ensures.is c.top.ensures.top in
    let all = c.args.lines.now.items ++ lines_of (numbered (placed 0 hs)) in
    let rest = numbered (placed (k + 1) (drop (k + 1) hs)) in
    let from = numbered (placed k (drop k hs)) in
    record {
      made = elim c.match-top.branch [
        | in-Some+in_ok-add_line w ↦
            line-pushed c.loop-place.lines.items c.match-top.lines.items all (Some (Int (pos k)), h) rest from w.key_at.result w.in-Some.top
            (sym c.top.ensures.is ∙ w.in-Some.is) step w.key_at.ensures (ap (λ lines. lines.items) w.lines-is ∙ w.in_ok-add_line.ensures.ok) c.loop-place.invariant.made
        | in_default w ↦
            line-skipped c.match-top.lines.items all (Some (Int (pos k)), h) rest from (sym c.top.ensures.is ∙ none_of c.top.result w.in_default.not-Some) step
            (ap (λ lines. lines.items ++ lines_of from) w.lines-is ∙ c.loop-place.invariant.made)
      ];
      topped = λ others. c.loop-place.invariant.topped (subst (AllByRecursion IsTopped) (sym step) (own, others));
    }
