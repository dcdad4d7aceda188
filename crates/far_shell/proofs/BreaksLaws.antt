-- What is printed of a script up to a fault.
use Rattle.std.proofs.Common.{◌≡◌, ◌≢◌, ◌+◌, ◌≤◌, ◌<◌, ℕ, ◌⊎◌, inl, inr, Bool, false, IsTrue, List, [], ◌++◌, length, length-append, append-nil, Option, Some, None, ◌∙◌, refl, ap, subst, arith}
use Rattle.std.specs.Prelude.{IfSome, unwrap_or}
use Rattle.std.proofs.KnownBytes.{Appends-nil}
use Rattle.std.specs.declared.io.traits.Read.{Ghosts}
use Rattle.far_store.specs.declared.store.FarTickets.{Ghosts as Tickets}
use Rattle.far_script.specs.declared.fault.ShellFault.{ShellFault}
use Rattle.far_script.specs.declared.fault.ShellFault.TheVariants as fault
use Rattle.far_script.specs.declared.input.Input.{Input}
use Rattle.far_shell.specs.LineFaults.{BreaksLater, BreaksServing, HasNotBegun, IsRefused}
use Rattle.far_shell.specs.Breaks.{Breaks, EndsBy, IsBroken, IsSplit, IsUnfinished}
use Rattle.far_script.specs.Faults.{IfInput, IsCut}
use Rattle.far_script.specs.Flow.{Counts, Gives, IsOver, IsAtEnd, IsUnseen, Prints, Reads, unread}
use Rattle.far_script.specs.Openings.{Opened, Schema, start_in}
use Rattle.far_shell.specs.Scripts.{Begins, IsScript}
use Rattle.far_shell.specs.Sessions.{IsAnswered}
use Rattle.far_script.proofs.FlowLaws.{no-rest, prints-nothing-then, prints-then-nothing}
use Rattle.far_shell.proofs.ScriptsLaws.{begins-then}
use Rattle.far_shell.proofs.LineFaultsLaws.{Starting, first-or-later, not-begun}
use Rattle.far_script.proofs.FlowStops.{gives-then}

-- if nothing is read, the whole script is left
pub starts-none : (known : Option (List ℕ)) → IfSome known (λ script. script ≡ [] ++ unwrap_or known [])
starts-none None = tt
starts-none (Some xs) = refl

broken-first : {S K : Type 0} (tickets : Tickets S K) (unseen spent : List ℕ → Type 0) (why : ShellFault) (bytes rest text : List ℕ) → HasNotBegun (unseen bytes) (spent rest) why bytes rest text → IsBroken tickets unseen spent why bytes rest text
broken-first tickets unseen spent fault.BadStart bytes rest text h = h
broken-first tickets unseen spent fault.Input bytes rest text h = inl h
broken-first tickets unseen spent fault.Output bytes rest text h = inl h
broken-first tickets unseen spent fault.Memory bytes rest text h = inl h
broken-first tickets unseen spent fault.Turns bytes rest text h = absurd h

broken-later : {S K : Type 0} (tickets : Tickets S K) (unseen spent : List ℕ → Type 0) (why : ShellFault) (bytes rest text : List ℕ) → BreaksLater tickets (unseen bytes) (spent rest) why bytes rest text → IsBroken tickets unseen spent why bytes rest text
broken-later tickets unseen spent fault.BadStart bytes rest text h = absurd h.breaks.cut
broken-later tickets unseen spent fault.Input bytes rest text h = inr h
broken-later tickets unseen spent fault.Output bytes rest text h = inr h
broken-later tickets unseen spent fault.Memory bytes rest text h = inr h
broken-later tickets unseen spent fault.Turns bytes rest text h = absurd h.breaks.cut

ends-by : {S K : Type 0} (tickets : Tickets S K) (unseen spent : List ℕ → Type 0) (splits : ShellFault → List ℕ → List ℕ → Type 0) (may_fail : Bool) (why : ShellFault) (bytes rest text lost : List ℕ) → (why ≡ fault.Output → IsTrue may_fail) → splits why bytes rest → IsBroken tickets unseen spent why bytes rest text → lost ≡ []
    → EndsBy tickets unseen spent splits may_fail why bytes rest text lost
ends-by tickets unseen spent splits may_fail fault.BadStart bytes rest text lost cause begins h none = ((begins, h), none)
ends-by tickets unseen spent splits may_fail fault.Input bytes rest text lost cause begins h none = ((begins, h), none)
ends-by tickets unseen spent splits may_fail fault.Output bytes rest text lost cause begins h none = (cause refl, inr (fault.Output, (begins, h)))
ends-by tickets unseen spent splits may_fail fault.Memory bytes rest text lost cause begins h none = ((begins, h), none)
ends-by tickets unseen spent splits may_fail fault.Turns bytes rest text lost cause begins h none = ((begins, h), none)

module _ {R : Type 0} (read : Ghosts R) {S K : Type 0} (tickets : Tickets S K) (unseen : Type 0) where
  -- the script ends early
  abbrev pub Breaking : Input R read → Input R read → Option (List ℕ) → Option (List ℕ) → List ℕ → ShellFault → Type 0
  Breaking first new a b left why = (bytes : List ℕ) × (rest : List ℕ) × (text : List ℕ) × Gives read why first new bytes rest × Prints a [] text b left × IsBroken tickets (λ _. unseen) (IsOver read new) why bytes rest text

  -- the script ends before its first command is complete
  pub breaks-start : (old new : Input R read) (u w : Option (List ℕ)) (held left : List ℕ) (why : ShellFault) → held ≡ [] → Starting read unseen old new u w held left why → Breaking old new u w left why
  breaks-start old new u w held left why empty s =
      (s.0, s.1, s.2, s.3, subst (λ (z : List ℕ). Prints u z s.2 w left) empty s.4, broken-first tickets (λ _. unseen) (IsOver read new) why s.0 s.1 s.2 s.5)

  -- the script ends after its first command, which opens a table
  pub breaks-table : (old mid new : Input R read) (u v w : Option (List ℕ)) (held k left first line bytes rest text : List ℕ) (opened : Opened) (why : ShellFault)
      → held ≡ [] → Reads read old first mid → Prints u held [] v k → Begins first (IsAtEnd read mid) line → start_in line ≡ Some (Schema opened)
      → Gives read why mid new bytes rest → Prints v k text w left → BreaksServing tickets unseen (IsOver read new rest) opened why bytes rest text
      → Breaking old new u w left why
  breaks-table old mid new u v w held k left first line bytes rest text opened why empty p q b asks g t (inl h) = (
    first,
    rest,
    text,
    subst (λ (z : List ℕ). Gives read why old new z rest) (ap (λ (z : List ℕ). first ++ z) h.0 ∙ append-nil first) (gives-then read old mid new first bytes rest why p g),
    subst (λ (z : List ℕ). Prints u z text w left) empty (prints-nothing-then u v w held k text left q t),
    broken-first tickets (λ _. unseen) (IsOver read new) why first rest text
        (not-begun unseen (IsOver read new rest) why (IsRefused opened) first rest text h.1 (λ refused. inl (line, begins-then first line (IsAtEnd read mid) (rest ≡ []) (λ s. no-rest bytes rest (g.0.1 s)) b, inr (opened, asks, refused)))
        (inr (line, begins-then first line (IsAtEnd read mid) (rest ≡ []) (λ s. no-rest bytes rest (g.0.1 s)) b))),
  )
  breaks-table old mid new u v w held k left first line bytes rest text opened why empty p q b asks g t (inr h) = (
    first ++ bytes,
    rest,
    text,
    gives-then read old mid new first bytes rest why p g,
    subst (λ (z : List ℕ). Prints u z text w left) empty (prints-nothing-then u v w held k text left q t),
    broken-later tickets (λ _. unseen) (IsOver read new) why (first ++ bytes) rest text (record {
      first = first;
      at = h.0;
      more = bytes;
      tail = h.1;
      opens = (line, opened, begins-then first line (IsAtEnd read mid) (bytes ++ rest ≡ []) g.0.1 b, asks, h.2);
      breaks = h.3;
      whole = refl;
      said = h.4;
    }),
  )

-- the script ends early, and what it printed is written
pub breaks-written : {S K : Type 0} (tickets : Tickets S K) (unseen spent : List ℕ → Type 0) (splits : ShellFault → List ℕ → List ℕ → Type 0) (may_fail : Bool) (u v w : Option (List ℕ)) (why : ShellFault) (bytes rest text left : List ℕ) → (why ≡ fault.Output → IsTrue may_fail) → splits why bytes rest → Prints u [] text v left → IsBroken tickets unseen spent why bytes rest text
    → Prints v left [] w [] → Breaks tickets unseen spent splits may_fail u w why
breaks-written tickets unseen spent splits may_fail u v w why bytes rest text left cause begins p b q =
    let all = prints-then-nothing u v w [] text left [] p q in
    record { bytes = bytes; rest = rest; text = text; sent = all.0; lost = []; written = all.1; said = all.2; ends = ends-by tickets unseen spent splits may_fail why bytes rest text [] cause begins b refl }

-- the script ends early, and then a write fails
pub breaks-unwritten : {S K : Type 0} (tickets : Tickets S K) (unseen spent : List ℕ → Type 0) (splits : ShellFault → List ℕ → List ℕ → Type 0) (may_fail : Bool) (u v w : Option (List ℕ)) (why : ShellFault) (bytes rest text left lost : List ℕ) → IsTrue may_fail → splits why bytes rest → Prints u [] text v left → IsBroken tickets unseen spent why bytes rest text
    → Prints v left [] w lost → Breaks tickets unseen spent splits may_fail u w fault.Output
breaks-unwritten tickets unseen spent splits may_fail u v w why bytes rest text left lost cause split p b q =
    let all = prints-then-nothing u v w [] text left lost p q in
    record { bytes = bytes; rest = rest; text = text; sent = all.0; lost = lost; written = all.1; said = all.2; ends = (cause, inr (why, (split, b))) }

-- the script gets all its replies, and then a write fails
pub whole-unwritten : {S K : Type 0} (tickets : Tickets S K) (unseen spent : List ℕ → Type 0) (splits : ShellFault → List ℕ → List ℕ → Type 0) (may_fail : Bool) (u v w : Option (List ℕ)) (script rest text left lost : List ℕ) → IsTrue may_fail → splits fault.Output script rest → Prints u [] text v left → IsAnswered (IsScript tickets) script (rest ≡ []) text → Prints v left [] w lost
    → Breaks tickets unseen spent splits may_fail u w fault.Output
whole-unwritten tickets unseen spent splits may_fail u v w script rest text left lost cause begins p s q =
    let all = prints-then-nothing u v w [] text left lost p q in
    record { bytes = script; rest = rest; text = text; sent = all.0; lost = lost; written = all.1; said = all.2; ends = (cause, inl (begins, s)) }

-- a fact holds for each fault
pub always : (why : ShellFault) (P : Type 0) → P → IfInput why P
always fault.BadStart P h = tt
always fault.Input P h = h
always fault.Output P h = tt
always fault.Memory P h = tt
always fault.Turns P h = tt

module _ {S K : Type 0} (tickets : Tickets S K) (P Q A B : List ℕ → Type 0) where
  broken-as : (why : ShellFault) (bytes rest text : List ℕ) → IfInput why (P bytes → Q bytes) → (A rest → B rest) → IsBroken tickets P A why bytes rest text → IsBroken tickets Q B why bytes rest text
  broken-as fault.BadStart bytes rest text f s h = h
  broken-as fault.Input bytes rest text f s h = first-or-later tickets (P bytes) (Q bytes) (A rest) (B rest) fault.Input bytes rest text f s h
  broken-as fault.Output bytes rest text f s h = first-or-later tickets (P bytes) (Q bytes) (A rest) (B rest) fault.Output bytes rest text f s h
  broken-as fault.Memory bytes rest text f s h = first-or-later tickets (P bytes) (Q bytes) (A rest) (B rest) fault.Memory bytes rest text f s h
  broken-as fault.Turns bytes rest text f s h = h

module _ {S K : Type 0} (tickets : Tickets S K) (P Q A B : List ℕ → Type 0) (splits others : ShellFault → List ℕ → List ℕ → Type 0) (f : (why : ShellFault) (bytes rest : List ℕ) → splits why bytes rest → IfInput why (P bytes → Q bytes))
    (s : (rest : List ℕ) → A rest → B rest) (g : (why : ShellFault) (bytes rest : List ℕ) → splits why bytes rest → others why bytes rest) where
  split-as : (why : ShellFault) (bytes rest text : List ℕ) → IsSplit tickets P A splits why bytes rest text → IsSplit tickets Q B others why bytes rest text
  split-as why bytes rest text h = (g why bytes rest h.0, broken-as tickets P Q A B why bytes rest text (f why bytes rest h.0) (s rest) h.1)

  unwritten-as : (bytes rest text : List ℕ) → (splits fault.Output bytes rest × IsAnswered (IsScript tickets) bytes (rest ≡ []) text) ⊎ ((why : ShellFault) × IsSplit tickets P A splits why bytes rest text)
      → (others fault.Output bytes rest × IsAnswered (IsScript tickets) bytes (rest ≡ []) text) ⊎ ((why : ShellFault) × IsSplit tickets Q B others why bytes rest text)
  unwritten-as bytes rest text (inl h) = inl (g fault.Output bytes rest h.0, h.1)
  unwritten-as bytes rest text (inr h) = inr (h.0, split-as h.0 bytes rest text h.1)

  ends-as : (may_fail : Bool) (why : ShellFault) (bytes rest text lost : List ℕ) → EndsBy tickets P A splits may_fail why bytes rest text lost → EndsBy tickets Q B others may_fail why bytes rest text lost
  ends-as may_fail fault.BadStart bytes rest text lost h = (split-as fault.BadStart bytes rest text h.0, h.1)
  ends-as may_fail fault.Input bytes rest text lost h = (split-as fault.Input bytes rest text h.0, h.1)
  ends-as may_fail fault.Output bytes rest text lost h = (h.0, unwritten-as bytes rest text h.1)
  ends-as may_fail fault.Memory bytes rest text lost h = (split-as fault.Memory bytes rest text h.0, h.1)
  ends-as may_fail fault.Turns bytes rest text lost h = (split-as fault.Turns bytes rest text h.0, h.1)

  -- the script also ends early in weaker terms, and with another split of its bytes
  pub breaks-as : (may_fail : Bool) (u v : Option (List ℕ)) (why : ShellFault) → Breaks tickets P A splits may_fail u v why → Breaks tickets Q B others may_fail u v why
  breaks-as may_fail u v why b = record {
    bytes = b.bytes;
    rest = b.rest;
    text = b.text;
    sent = b.sent;
    lost = b.lost;
    written = b.written;
    said = b.said;
    ends = ends-as may_fail why b.bytes b.rest b.text b.lost b.ends;
  }

-- once the reads are used up, at least 1,048,576 bytes came
reads-made : (reads bytes reads_left bytes_left n held : ℕ) → reads ≡ 1048576 → held ≡ 0 → bytes_left + n ≡ bytes + held → reads + bytes_left ≤ bytes → 1048576 ≤ n
reads-made reads bytes reads_left bytes_left n held many none counted past = omega (arith, many, none, counted, past)

-- once the bytes of a script are used up, at least 1,048,576 bytes came
bytes-made : (bytes bytes_left n held : ℕ) → bytes ≡ 16777216 → held ≡ 0 → bytes_left + n ≡ bytes + held → bytes_left ≡ 0 → 1048576 ≤ n
bytes-made bytes bytes_left n held many none counted past = omega (arith, many, none, counted, past)

cut-unfinished : (may_fail : Type 0) (known : Option (List ℕ)) (reads bytes reads_left bytes_left held : ℕ) (came : List ℕ) → reads ≡ 1048576 → bytes ≡ 16777216 → held ≡ 0 → bytes_left + length came ≡ bytes + held
    → IsCut may_fail reads bytes reads_left bytes_left known → IsUnfinished may_fail came
cut-unfinished may_fail known reads bytes reads_left bytes_left held came many most none counted (inl h) = inl h
cut-unfinished may_fail known reads bytes reads_left bytes_left held came many most none counted (inr (inl h)) = inr (reads-made reads bytes reads_left bytes_left (length came) held many none counted h.1)
cut-unfinished may_fail known reads bytes reads_left bytes_left held came many most none counted (inr (inr h)) = inr (bytes-made bytes bytes_left (length came) held most none counted h.0)

module _ {R : Type 0} (read : Ghosts R) (may_fail : Type 0) where
  -- a new input that is not at its end came in at least 1,048,576 bytes, or its reader may fail
  pub unfinished : (input new : Input R read) (bytes : List ℕ) → input.source.reads ≡ 1048576 → input.source.bytes ≡ 16777216 → unread read input ≡ [] → Counts read input bytes new → IsUnseen read may_fail input new
      → IsUnfinished may_fail bytes
  unfinished input new bytes reads most none counts u =
      cut-unfinished may_fail (read.remaining input.source.reader) input.source.reads input.source.bytes new.source.reads new.source.bytes (length (unread read input)) bytes reads most (ap (λ (t : List ℕ). length t) none) counts.0 u.3

short-unfinished : (script bytes rest : List ℕ) → length script < 1048576 → script ≡ bytes ++ rest → IsUnfinished ⊥ bytes → ⊥
short-unfinished script bytes rest low split (inl h) = h
short-unfinished script bytes rest low split (inr many) = omega (arith, low, many, ap (λ (t : List ℕ). length t) split, length-append bytes rest)

-- a script shorter than 1,048,576 bytes comes whole
pub short-whole : {S K : Type 0} (tickets : Tickets S K) (may_fail : Bool) (script : List ℕ) (u v : Option (List ℕ)) (why : ShellFault) → length script < 1048576 → Breaks tickets (IsUnfinished ⊥) (λ rest. rest ≡ []) (λ _ bytes rest. script ≡ bytes ++ rest) may_fail u v why
    → Breaks tickets (λ _. ⊥) (λ rest. rest ≡ []) (λ _ bytes rest. script ≡ bytes ++ rest) may_fail u v why
short-whole tickets may_fail script u v why low b =
    breaks-as tickets (IsUnfinished ⊥) (λ _. ⊥) (λ rest. rest ≡ []) (λ rest. rest ≡ []) (λ _ bytes rest. script ≡ bytes ++ rest) (λ _ bytes rest. script ≡ bytes ++ rest)
    (λ at bytes rest split. always at (IsUnfinished ⊥ bytes → ⊥) (λ unfinished. short-unfinished script bytes rest low split unfinished)) (λ rest none. none) (λ at bytes rest split. split) may_fail u v why b

-- memory runs out before anything is read
pub breaks-none : {S K : Type 0} (tickets : Tickets S K) (unseen spent : List ℕ → Type 0) (may_fail : Bool) (known u : Option (List ℕ)) → Breaks tickets unseen spent (λ why bytes rest. IfSome known (λ script. script ≡ bytes ++ rest)) may_fail u u fault.Memory
breaks-none tickets unseen spent may_fail known u =
    record { bytes = []; rest = unwrap_or known []; text = []; sent = []; lost = []; written = Appends-nil u; said = refl; ends = ((starts-none known, inl (refl, inl ([], refl))), refl) }

-- a script does not end early because of a writer that never fails
pub sure-writer : {S K : Type 0} (tickets : Tickets S K) (unseen spent : List ℕ → Type 0) (splits : ShellFault → List ℕ → List ℕ → Type 0) (u v : Option (List ℕ)) (why : ShellFault) → Breaks tickets unseen spent splits false u v why → why ≢ fault.Output
sure-writer tickets unseen spent splits u v why b is = cc ((subst (λ (z : ShellFault). EndsBy tickets unseen spent splits false z b.bytes b.rest b.text b.lost) is b.ends).0)
