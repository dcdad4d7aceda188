use Rattle.std.proofs.Common.{◌≡◌, ◌+◌, ◌≤◌, ℕ, List, length}
use denote.Shadow.{shadow}
use denote.Text.{Utf8}
use Rattle.far_commands.specs.Replies.{records_of}
use Rattle.far_commands.proofs.LoadingLaws.{GoesTo}
use Rattle.far_commands.proofs.LoadingLines.{LinesLeft}
use Rattle.far_commands.specs.WorldRules.{both_rules}
use Rattle.far_commands.proofs.loading.load_lines.Given as goal

abbrev pub invariant-loop-rest : goal.invariant-loop-rest
invariant-loop-rest g l = record {
  text : shadow (Utf8 l.rest);
  left : (rows : List (List (List ℕ))) × LinesLeft l.rest rows × GoesTo (both_rules g.S.FarTickets) l.fn.world (records_of l.fn.text) l.count l.world rows;
  faults : l.world.faults ≡ l.fn.world.faults;
  counted : l.count + length l.rest ≤ length l.fn.text;
}

abbrev pub decreases-loop-rest : goal.decreases-loop-rest
decreases-loop-rest g l = length l.rest
