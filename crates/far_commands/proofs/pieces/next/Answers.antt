use Rattle.std.proofs.Common.{◌∷◌, [], ◌∙◌, decimal, get_or, sym, append_assoc}
use Rattle.far_commands.specs.Pieces.{group_text}
use Rattle.far_commands.proofs.PiecesLaws.{next-none, next-some, texts-end, texts-more}
use Rattle.far_commands.proofs.pieces.next.Goals as goal

pub returns-then-is_empty : goal.returns-then-is_empty
returns-then-is_empty c = record { ok = rw (sym (next-none c.args.groups.now (sym c.if-is_empty.ensures))) c.text.ensures.ok }

pub loop-group-preserved : goal.loop-group-preserved
loop-group-preserved c =
    texts-more group_text c.args.groups.now c.loop-group.group-index 0 c.loop-group.page c.number.new.self _ c.loop-group-test.true
    ((rw (c.from.ensures, c.in_ok-text-2.ensures.ok) at c.in_ok-number.ensures.ok) ∙ append_assoc c.loop-group.page (32 ∷ []) (decimal (get_or c.args.groups.now c.loop-group.group-index 0))) c.loop-group.invariant

pub returns : goal.returns
returns c = record {
  ok =
      rw (sym (next-some c.args.groups.now c.args.page.now c.loop-group.page (sym c.if-is_empty.ensures)
      (texts-end group_text c.args.groups.now c.loop-group.group-index c.loop-group.page _ c.loop-group-test.false c.loop-group.invariant))) c.text-3.ensures.ok;
}
