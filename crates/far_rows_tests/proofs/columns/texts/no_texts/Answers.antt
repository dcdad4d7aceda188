use Rattle.std.proofs.Common.{◌≡◌, sym, ap, subst}
use Rattle.std.specs.Prelude.{All}
use Rattle.std.proofs.lemmas.List.Elements.{All-push}
use Rattle.far_texts.specs.Texts.{Texts}
use Rattle.far_texts.specs.Columns.{AreTextColumns}
use Rattle.far_rows_tests.proofs.columns.texts.no_texts.Goals as goal

pub loop-k-preserved : goal.loop-k-preserved
loop-k-preserved c = (
  λ lists. subst (AreTextColumns lists) (sym c.in_ok-push.ensures.items) (c.columns_stay_together.ensures.more lists c.loop-k.columns.items _ (c.loop-k.invariant.0 lists) (c.in_ok-new.ensures.is lists) (ap (λ (t : Texts). t.objects) c.in_ok-new.ensures.empty)),
  subst (All (λ (t : Texts). t.size ≡ c.args.layout.group)) (sym c.in_ok-push.ensures.items) (All-push (λ (t : Texts). t.size ≡ c.args.layout.group) c.loop-k.columns.items _ c.loop-k.invariant.1 (ap (λ (t : Texts). t.size) c.in_ok-new.ensures.empty)),
)
