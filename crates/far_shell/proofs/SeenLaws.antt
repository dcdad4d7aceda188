-- The replies to a script by some rules are its replies by others.
use Rattle.std.proofs.Common.{ℕ, List, [], ◌∷◌, ap}
use Rattle.far_store.specs.declared.store.FarTickets.{Ghosts as Tickets}
use Rattle.far_frame.specs.Worlds.{World}
use Rattle.far_script.specs.Lines.{without_return}
use Rattle.far_script.specs.Openings.{Opened}
use Rattle.far_commands.specs.Progress.{At}
use Rattle.far_commands.specs.Replies.{AnswersLine}
use Rattle.far_commands.specs.Rules.{Rules}
use Rattle.far_commands.specs.TableRules.{table_rules}
use Rattle.far_commands.specs.WorldRules.{at_seen, both_rules, world_rules}
use Rattle.far_commands.proofs.RulesLaws.{opened-seen, table-line, world-line}
use Rattle.far_shell.specs.Scripts.{AnswersLines, AreTurns, Ends, IsNew, IsScript, IsScriptBy, IsTableScript, Turn}

module _ {V W : Type 0} (a : Rules V) (b : Rules W) (seen : At V → At W)
    (line-as : (old new : At V) (line rows text : List ℕ) → AnswersLine a old line rows text new → AnswersLine b (seen old) line rows text (seen new)) where
  turns-as : (old new : At V) (turns : List Turn) → AreTurns a old turns new → AreTurns b (seen old) turns (seen new)
  turns-as old new [] h = ap seen h
  turns-as old new (turn ∷ turns) h = (seen h.0, (h.1.0, line-as old h.0 (without_return turn.line) turn.rows turn.text h.1.1), turns-as h.0 new turns h.2)

  pub lines-as : (old new : At V) (bytes text : List ℕ) → AnswersLines a old bytes text new → AnswersLines b (seen old) bytes text (seen new)
  lines-as old new bytes text h = (h.0, h.1, h.2, turns-as old new h.0 h.3)

  ends-as : (old : At V) (script text : List ℕ) → Ends a old script text → Ends b (seen old) script text
  ends-as old script text h = record {
    bytes = h.bytes;
    printed = h.printed;
    mid = seen h.mid;
    answered = lines-as old h.mid h.bytes h.printed h.answered;
    last = h.last;
    line = h.line;
    tail = h.tail;
    new = seen h.new;
    answers = line-as h.mid h.new h.last [] h.tail h.answers;
    whole = h.whole;
    said = h.said;
  }

  pub script-as : ((opened : Opened) (at : At V) → IsNew a opened at → IsNew b opened (seen at)) → (script text : List ℕ) → IsScriptBy a script text → IsScriptBy b script text
  script-as new-as script text h = record {
    first = h.first;
    rest = h.rest;
    tail = h.tail;
    at = seen h.at;
    opens = (h.opens.0, h.opens.1, h.opens.2, h.opens.3, new-as h.opens.1 h.at h.opens.4);
    ends = ends-as h.at h.rest h.tail h.ends;
    whole = h.whole;
    said = h.said;
  }

module _ {S K : Type 0} (tickets : Tickets S K) where
  -- a new world is new by both rules
  pub both-new : (opened : Opened) (at : At (World K)) → IsNew (world_rules tickets) opened at → IsNew (both_rules tickets) opened at
  both-new opened at new = ((new.0, opened-seen K opened at.world new.0.0), new.1)

  pub world-new : (opened : Opened) (at : At (World K)) → IsNew (both_rules tickets) opened at → IsNew (world_rules tickets) opened at
  world-new opened at new = (new.0.0, new.1)

  pub world-lines : (old new : At (World K)) (bytes text : List ℕ) → AnswersLines (both_rules tickets) old bytes text new → AnswersLines (world_rules tickets) old bytes text new
  world-lines = lines-as (both_rules tickets) (world_rules tickets) (λ at. at) (world-line tickets)

  -- the replies by both rules are those with objects, space, jobs and the store, and those of the table alone
  pub world-script : (script text : List ℕ) → IsScriptBy (both_rules tickets) script text → IsScript tickets script text
  world-script = script-as (both_rules tickets) (world_rules tickets) (λ at. at) (world-line tickets) world-new

  pub table-script : (script text : List ℕ) → IsScriptBy (both_rules tickets) script text → IsTableScript tickets.may_fail script text
  table-script = script-as (both_rules tickets) (table_rules tickets.may_fail) at_seen (table-line tickets) (λ opened at new. (new.0.1, new.1))
