-- A whole script of a table.
use Rattle.std.proofs.Common.{◌≡◌, ℕ, List, [], ◌++◌, Option, Some, refl, subst}
use Rattle.std.specs.declared.io.traits.Read.{Ghosts}
use Rattle.far_script.specs.declared.input.Input.{Input}
use Rattle.far_script.specs.Flow.{Prints, Reads, IsAtEnd}
use Rattle.far_script.specs.Openings.{Opened, Schema, start_in}
use Rattle.far_commands.specs.Rules.{Rules}
use Rattle.far_shell.specs.Scripts.{Begins, IsScriptBy, IsServed}
use Rattle.far_shell.proofs.ScriptsLaws.{begins-then}
use Rattle.far_script.proofs.FlowLaws.{prints-nothing-then, reads-then, spent-nothing}

module _ {R : Type 0} (read : Ghosts R) {W : Type 0} (rules : Rules W) where
  -- a script is its first command, which opens a table, and the lines after it
  pub script-whole : (old mid new : Input R read) (first line rest text : List ℕ) (opened : Opened) (u v w : Option (List ℕ)) (held k left : List ℕ) → held ≡ []
      → Reads read old first mid → Prints u held [] v k → Begins first (IsAtEnd read mid) line → start_in line ≡ Some (Schema opened)
      → Reads read mid rest new → Prints v k text w left → IsServed rules opened rest text → IsAtEnd read new
      → (script : List ℕ) × (said : List ℕ) × Reads read old script new × Prints u [] said w left × IsScriptBy rules script said × IsAtEnd read new
  script-whole old mid new first line rest text opened u v w held k left empty r1 p1 b asks r2 p2 s spent = (
    first ++ rest,
    text,
    reads-then read old mid new first rest r1 r2,
    subst (λ (t : List ℕ). Prints u t text w left) empty (prints-nothing-then u v w held k text left p1 p2),
    record {
      first = first;
      rest = rest;
      tail = s.1;
      at = s.0;
      opens = (line, opened, begins-then first line (IsAtEnd read mid) (rest ≡ []) (λ x. spent-nothing read mid new rest x r2) b, asks, s.2);
      ends = s.3;
      whole = refl;
      said = s.4;
    },
    spent,
  )
