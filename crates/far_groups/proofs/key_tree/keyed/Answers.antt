use Rattle.std.proofs.Common.{subst}
use Rattle.std.specs.BTreeMap.{IsFromIterResult}
use Rattle.std.proofs.lemmas.Result.{IfOk-weaker}
use Rattle.far_types.specs.Keys.{line_cmp}
use Rattle.far_groups.specs.KeyTree.{keyed_by}
use Rattle.far_groups.proofs.WalksNewLines.{made_of}
use Rattle.far_groups.proofs.KeyTreeLaws.{ascend}
use Rattle.far_groups.proofs.key_tree.keyed.Goals as goal

pub returns : goal.returns
returns g c = record {
  ok =
      let tree = c.args.tree.now.entries in
      IfOk-weaker c.map_of.result _ _ (λ keys made. made_of (keyed_by g.K.TreeKey.as_key tree) keys (ascend g.met.K.TreeKey.keeps_order tree c.keyed_lines.ensures.ordered) (subst (λ lines. IsFromIterResult line_cmp lines keys) c.in_ok-lines.ensures.ok made)) c.map_of.ensures.ok;
}
