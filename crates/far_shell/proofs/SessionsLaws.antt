-- Scripts of sessions on threads.
use Rattle.std.proofs.Common.{◌≡◌, ◌+◌, ◌<◌, ◌≤◌, ℕ, ◌⊎◌, inl, inr, List, [], ◌++◌, length, drop, get_or, Option, Some, append_assoc, append-nil, ◌∙◌, refl, sym, ap, subst}
use Rattle.std.proofs.lemmas.List.{drop_more}
use Rattle.std.specs.declared.io.traits.Read.{Ghosts}
use Rattle.far_sessions.specs.declared.reading.Reading.{Reading}
use Rattle.far_store.specs.declared.store.FarTickets.{Ghosts as Tickets}
use Rattle.far_script.specs.declared.fault.ShellFault.{ShellFault}
use Rattle.far_script.specs.declared.fault.ShellFault.TheVariants as fault
use Rattle.far_script.specs.declared.input.Input.{Input}
use Rattle.far_script.specs.Flow.{IsAtEnd, Prints, Reads}
use Rattle.far_script.specs.Openings.{Threads, start_in}
use Rattle.far_script.specs.Printing.{answer_text}
use Rattle.far_script.proofs.FlowLaws.{prints, prints-nothing-then}
use Rattle.far_script.proofs.FlowStops.{coming, spent-rest, starts}
use Rattle.far_shell.specs.declared.sessions.outcome.Outcome.{Outcome}
use Rattle.far_shell.specs.Runs.{IsOutcome}
use Rattle.far_shell.specs.Scripts.{Begins}
use Rattle.far_shell.specs.Sessions.{IsThreads, IsOutcomeText, gauges_text, session_line, outcome_text}
use Rattle.far_shell.proofs.BreaksLaws.{Breaking}
use Rattle.far_commands.proofs.ListingsFields.{drop-past}
use Rattle.far_shell.proofs.ScriptsLaws.{begins-then, either}

-- printing the gauge line of one more session
pub gauges-more : (readings : List Reading) (i : ℕ) (reading : Reading) (page after whole : List ℕ) → i < length readings → after ≡ page ++ session_line i (get_or readings i reading)
    → page ++ gauges_text i (drop i readings) ≡ whole → after ++ gauges_text (i + 1) (drop (i + 1) readings) ≡ whole
gauges-more readings i reading page after whole low grown e =
    rw grown (append_assoc page (session_line i (get_or readings i reading)) (gauges_text (i + 1) (drop (i + 1) readings))
    ∙ sym (ap (λ (rest : List Reading). page ++ gauges_text i rest) (drop_more readings i reading low)) ∙ e)

-- after the last session the text is complete
pub gauges-end : (readings : List Reading) (i : ℕ) (page whole : List ℕ) → length readings ≤ i → page ++ gauges_text i (drop i readings) ≡ whole → page ≡ whole
gauges-end readings i page whole past e = sym (append-nil page) ∙ sym (ap (λ (rest : List Reading). page ++ gauges_text i rest) (drop-past readings i past)) ∙ e

-- the printed text is that of the right outcome
pub outcome-of : (sessions edits : ℕ) (o : Outcome) (page : List ℕ) → IsOutcome sessions edits o → page ≡ outcome_text o → IsOutcomeText sessions edits page
outcome-of sessions edits o page is said = said ∙ (λ i. gauges_text 0 (is.gauges i) ++ answer_text (is.total i))

-- the sessions were not stopped by a failed write
pub stopped-unwritten : (why : ShellFault) (P : Type 0) → (why ≡ fault.Memory) ⊎ (why ≡ fault.Turns) → why ≡ fault.Output → P
stopped-unwritten why P (inl memory) = rw memory (λ e. absurd (cc e))
stopped-unwritten why P (inr turns) = rw turns (λ e. absurd (cc e))

-- a script is answered in weaker terms
pub answered-then : (bytes text : List ℕ) (A P Q : Type 0) → (P → Q) → (A × P) ⊎ IsThreads bytes P text → (A × Q) ⊎ IsThreads bytes Q text
answered-then bytes text A P Q f a =
    either (λ (s : A × P). (s.0, f s.1)) (λ (t : IsThreads bytes P text). record { sessions = t.sessions; edits = t.edits; asks = (t.asks.0, begins-then bytes t.asks.0 P Q f t.asks.1, t.asks.2); printed = t.printed }) a

module _ {R : Type 0} (read : Ghosts R) where
  -- a script begins with sessions, and they ended
  pub sessions-whole : (old mid : Input R read) (u w : Option (List ℕ)) (held l left first line text : List ℕ) (sessions edits : ℕ) → held ≡ []
      → Reads read old first mid → Begins first (IsAtEnd read mid) line → start_in line ≡ Some (Threads sessions edits) → Prints u held [] w l → left ≡ l ++ text → IsOutcomeText sessions edits text
      → (bytes : List ℕ) × (said : List ℕ) × Reads read old bytes mid × Prints u [] said w left × IsThreads bytes (IsAtEnd read mid) said
  sessions-whole old mid u w held l left first line text sessions edits empty p b asks q e printed = (
    first,
    text,
    p,
    subst (λ (z : List ℕ). Prints u z text w left) empty (prints-nothing-then u w w held l text left q (prints w l text left e)),
    record { sessions = sessions; edits = edits; asks = (line, b, asks); printed = printed },
  )

module _ {R : Type 0} (read : Ghosts R) {S K : Type 0} (tickets : Tickets S K) where
  -- a script begins with sessions, and they were stopped
  pub sessions-stopped : (old mid : Input R read) (u w : Option (List ℕ)) (held l left first line : List ℕ) (sessions edits : ℕ) (why : ShellFault) (unseen : Type 0) → held ≡ []
      → Reads read old first mid → Begins first (IsAtEnd read mid) line → start_in line ≡ Some (Threads sessions edits) → Prints u held [] w l → left ≡ l → (why ≡ fault.Memory) ⊎ (why ≡ fault.Turns)
      → Breaking read tickets unseen old mid u w left why
  sessions-stopped old mid u w held l left first line sessions edits why unseen empty p b asks q e (inl memory) =
      rw (memory, e) (
        first,
        coming read mid,
        [],
        (starts read old mid first p, tt, p),
        subst (λ (z : List ℕ). Prints u z [] w l) empty q,
        inl (refl, inr (line, begins-then first line (IsAtEnd read mid) (coming read mid ≡ []) (spent-rest read mid) b)),
      )
  sessions-stopped old mid u w held l left first line sessions edits why unseen empty p b asks q e (inr turns) =
      rw (turns, e) (
        first,
        coming read mid,
        [],
        (starts read old mid first p, tt, tt),
        subst (λ (z : List ℕ). Prints u z [] w l) empty q,
        (refl, (sessions, edits, (line, begins-then first line (IsAtEnd read mid) (coming read mid ≡ []) (spent-rest read mid) b, asks))),
      )
