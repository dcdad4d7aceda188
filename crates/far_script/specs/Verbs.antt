-- The first words of commands.
use Rattle.std.specs.Prelude.{ℕ, List, Option, None, Some, option_map, codes, if◌then◌else◌}
use Rattle.far_script.specs.declared.verb.Movement.{Movement}
use Rattle.far_script.specs.declared.verb.Movement.TheVariants as movement
use Rattle.far_script.specs.declared.verb.Verb.{Verb}
use Rattle.far_script.specs.declared.verb.Verb.TheVariants as verb
use Rattle.far_script.specs.Words.{reads}

-- the first word of a command about objects or jobs
abbrev pub movement_named : List ℕ → Option Movement
movement_named word =
    if reads word (codes "lend") then Some movement.Lend
    else if reads word (codes "pin") then Some movement.Pin
    else if reads word (codes "unpin") then Some movement.Unpin
    else if reads word (codes "evac") then Some movement.Evac
    else if reads word (codes "fetch") then Some movement.Fetch
    else if reads word (codes "carry") then Some movement.Carry
    else if reads word (codes "commit") then Some movement.Commit
    else if reads word (codes "install") then Some movement.Install
    else if reads word (codes "compact") then Some movement.Compact
    else if reads word (codes "prefetch") then Some movement.Prefetch
    else if reads word (codes "offload") then Some movement.Offload
    else if reads word (codes "merge") then Some movement.Merge
    else None

-- the first word of a command
abbrev pub verb_of : List ℕ → Option Verb
verb_of word =
    if reads word (codes "insert") then Some verb.Insert
    else if reads word (codes "set") then Some verb.Set
    else if reads word (codes "remove") then Some verb.Remove
    else if reads word (codes "watch") then Some verb.Watch
    else if reads word (codes "unwatch") then Some verb.Unwatch
    else if reads word (codes "scan") then Some verb.Scan
    else if reads word (codes "ask") then Some verb.Ask
    else if reads word (codes "load") then Some verb.Load
    else if reads word (codes "dump") then Some verb.Dump
    else if reads word (codes "renew") then Some verb.Renew
    else if reads word (codes "recount") then Some verb.Recount
    else option_map verb.Move (movement_named word)
