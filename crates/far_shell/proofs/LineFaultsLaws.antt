-- What is printed up to a fault in a line.
use Rattle.std.proofs.Common.{◌≡◌, ◌==◌, ◌≤◌, ℕ, false, ◌⊎◌, inl, inr, List, [], ◌∷◌, ◌++◌, Option, append_assoc, append-nil, ◌∙◌, refl, sym, ap, subst}
use Rattle.std.specs.Prelude.{IsUtf8, codes}
use Rattle.std.specs.List.{list_any}
use Rattle.std.specs.Io.BufRead.{strip_last}
use Rattle.std.specs.declared.io.traits.Read.{Ghosts}
use Rattle.far_store.specs.declared.store.FarTickets.{Ghosts as Tickets}
use Rattle.far_script.specs.declared.fault.ShellFault.{ShellFault}
use Rattle.far_script.specs.declared.fault.ShellFault.TheVariants as fault
use Rattle.far_script.specs.declared.input.Input.{Input}
use Rattle.far_types.specs.declared.cell.Kind.{Kind}
use Rattle.far_frame.specs.Worlds.{World}
use Rattle.far_commands.specs.Commands.{command_of}
use Rattle.far_commands.specs.Cuts.{IsListing, Fails, PrintsCut, TakesFor}
use Rattle.far_shell.specs.LineFaults.{BreaksIn, BreaksLater, BreaksOff, BreaksServing, HasNotBegun, HasNoTurn, IsAtStart, IsRefused, IsStopped, IsUnknown, Rejection, Rejects}
use Rattle.far_script.specs.Faults.{IfInput, IfHalted}
use Rattle.far_script.specs.Flow.{Counts, Gives, IsOver, IsShort, IsAtEnd, Prints, Reads, StartsWith, Stops}
use Rattle.far_commands.specs.Progress.{At}
use Rattle.far_commands.specs.WorldRules.{world_rules}
use Rattle.far_script.specs.Lines.{Blank, IsOneLine, without_return}
use Rattle.far_script.specs.Openings.{Opened}
use Rattle.far_shell.specs.Scripts.{AnswersLines, Begins, IsNew}
use Rattle.far_script.proofs.FlowLaws.{no-first, no-rest, prints, prints-then, prints-nothing-then, prints-then-nothing, reads-none, reads-then, spent-nothing, spent-stays}
use Rattle.far_shell.proofs.ScriptsLaws.{begins-then, either}
use Rattle.far_script.proofs.FlowStops.{coming, counts-then, if-input, in-halted, leaves-same, short-later, spent-rest, starts, starts-then, stops-here, stops-more, stops-then}

-- a first line is not rejected because of the input
pub rejected-input : (why : ShellFault) (says : List ℕ → Type 0) (text : List ℕ) (P : Type 0) → Rejection why says text → IfInput why P
rejected-input fault.BadStart says text P h = tt
rejected-input fault.Input says text P h = absurd h
rejected-input fault.Output says text P h = absurd h
rejected-input fault.Memory says text P h = tt
rejected-input fault.Turns says text P h = absurd h

module _ {R : Type 0} (read : Ghosts R) where
  -- a whole line came, and it or what follows it is invalid
  stops-line : (before mid new : Input R read) (raw line : List ℕ) (unseen : Type 0) (fails : List ℕ → List ℕ → List ℕ → Type 0) → IsOneLine raw → line ≡ strip_last 13 raw → Reads read before (raw ++ 10 ∷ []) mid
      → Stops read (λ behind rest. fails rest line behind) mid new → Stops read (λ bytes rest. HasNoTurn unseen (IsOver read new rest) (fails rest) bytes) before new
  stops-line before mid new raw line unseen fails one stripped p s =
      stops-then read before mid new (raw ++ 10 ∷ []) (λ behind rest. fails rest line behind) (λ bytes rest. HasNoTurn unseen (IsOver read new rest) (fails rest) bytes) p
      (λ behind rest h. inr (raw, behind, one, append_assoc raw (10 ∷ []) behind, subst (λ (z : List ℕ). fails rest z behind) stripped h)) s

  -- the last line came, and it or what follows it is invalid
  stops-last : (before mid new : Input R read) (line : List ℕ) (unseen : Type 0) (fails : List ℕ → List ℕ → List ℕ → Type 0) → IsOneLine line → Reads read before line mid → IsAtEnd read mid
      → Stops read (λ behind rest. fails rest line behind) mid new → Stops read (λ bytes rest. HasNoTurn unseen (IsOver read new rest) (fails rest) bytes) before new
  stops-last before mid new line unseen fails one p spent s =
      let none : s.0 ≡ [] = no-first s.0 s.1 (s.2.1 spent) in
      let over : IsOver read new s.1 = (s.3.1 spent.1, no-rest s.0 s.1 (s.2.1 spent)) in
      stops-then read before mid new line (λ behind rest. (behind ≡ []) × IsOver read new rest × fails rest line behind) (λ bytes rest. HasNoTurn unseen (IsOver read new rest) (fails rest) bytes) p
      (λ behind rest h. subst (λ (z : List ℕ). HasNoTurn unseen (IsOver read new rest) (fails rest) z) (sym (ap (λ (z : List ℕ). line ++ z) h.0 ∙ append-nil line)) (inl (one, inr (h.1, subst (λ (z : List ℕ). fails rest line z) h.0 h.2))))
      (s.0, s.1, s.2, s.3, (none, over, s.4))

  -- a line that came is not valid UTF-8
  pub no-text-line : (before mid : Input R read) (raw line : List ℕ) (unseen : Type 0) → list_any (λ x. x == 10) raw ≡ false → line ≡ strip_last 13 raw → Reads read before (raw ++ 10 ∷ []) mid → (IsUtf8 line → ⊥)
      → Stops read (λ bytes rest. HasNoTurn unseen (IsOver read mid rest) (λ line behind. ¬ (IsUtf8 line)) bytes) before mid
  no-text-line before mid raw line unseen one stripped p h = stops-line before mid mid raw line unseen (λ rest line behind. ¬ (IsUtf8 line)) one stripped p (stops-here read mid mid (λ behind rest. ¬ (IsUtf8 line)) refl (λ e. e) (leaves-same _ _) h)

  pub no-text-last : (before mid : Input R read) (line : List ℕ) (unseen : Type 0) → list_any (λ x. x == 10) line ≡ false → Reads read before line mid → IsAtEnd read mid → (IsUtf8 line → ⊥)
      → Stops read (λ bytes rest. HasNoTurn unseen (IsOver read mid rest) (λ line behind. ¬ (IsUtf8 line)) bytes) before mid
  no-text-last before mid line unseen one p spent h = stops-last before mid mid line unseen (λ rest line behind. ¬ (IsUtf8 line)) one p spent (stops-here read mid mid (λ behind rest. ¬ (IsUtf8 line)) refl (λ e. e) (leaves-same _ _) h)

  -- no whole line came, and the end was not seen
  pub no-line : (why : ShellFault) (unseen : Type 0) (before new : Input R read) → IfInput why unseen → IfInput why (Stops read (λ bytes rest. IsOneLine bytes) before new)
      → IfInput why (Stops read (λ bytes rest. HasNoTurn unseen (IsOver read new rest) (λ line behind. ¬ (IsUtf8 line)) bytes) before new)
  no-line fault.BadStart unseen before new u h = tt
  no-line fault.Input unseen before new u h = stops-more read before new (λ bytes rest. IsOneLine bytes) (λ bytes rest. HasNoTurn unseen (IsOver read new rest) (λ line behind. ¬ (IsUtf8 line)) bytes) (λ bytes rest one. inl (one, inl u)) h
  no-line fault.Output unseen before new u h = tt
  no-line fault.Memory unseen before new u h = tt
  no-line fault.Turns unseen before new u h = tt

nothing-printed : (a b c d : Option (List ℕ)) (h k l m text front : List ℕ) → Prints a h text b k → Prints b k [] c l → Prints c l front d m → front ≡ [] → Prints a h text d m
nothing-printed a b c d h k l m text front q t u none =
    prints-then-nothing a b d h text k m q (prints-then-nothing b c d k [] l m t (subst (λ (z : List ℕ). Prints c l z d m) none u))

module _ {R : Type 0} (read : Ghosts R) {S K : Type 0} (tickets : Tickets S K) (unseen : Type 0) where
  -- why a load lacks bytes
  abbrev pub Short : Input R read → List ℕ → Type 0
  Short new rest = IsOver read new rest ⊎ unseen

  -- the lines of a script end early
  abbrev pub Ending : Input R read → Input R read → Option (List ℕ) → Option (List ℕ) → List ℕ → List ℕ → At (World K) → ShellFault → Type 0
  Ending first new a b h k old why = (all : List ℕ) × (rest : List ℕ) × (said : List ℕ) × Gives read why first new all rest × Prints a h said b k × BreaksOff tickets unseen (IsOver read new rest) old why all rest said

  between : (first after new : Input R read) (a b : Option (List ℕ)) (h k : List ℕ) (old at : At (World K)) (bytes text : List ℕ) (why : ShellFault)
      → IfInput why (Counts read first bytes new) → IfHalted why (Reads read first bytes new) → BreaksIn unseen (IsOver read new (coming read after)) why at [] (coming read after) [] → Reads read first bytes after → Prints a h text b k → AnswersLines (world_rules tickets) old bytes text at → Ending first new a b h k old why
  between first after new a b h k old at bytes text why counts taken cut p q r = (
    bytes,
    coming read after,
    text,
    (starts read first after bytes p, counts, taken),
    q,
    record { before = bytes; printed = text; mid = at; answered = r; next = []; front = []; cut = cut; whole = sym (append-nil bytes); said = sym (append-nil text) },
  )

  -- no whole turn follows
  stopped : (first after new : Input R read) (a b : Option (List ℕ)) (h k : List ℕ) (old at : At (World K)) (bytes text : List ℕ)
      → Reads read first bytes after → Prints a h text b k → AnswersLines (world_rules tickets) old bytes text at → Stops read (λ bytes rest. HasNoTurn unseen (IsOver read new rest) (Fails (Short new rest) at.world.state.table.schema) bytes) after new → Ending first new a b h k old fault.Input
  stopped first after new a b h k old at bytes text p q r s = (
    bytes ++ s.0,
    s.1,
    text,
    (starts-then read first after bytes s.0 s.1 p s.2, counts-then read first after new bytes s.0 p s.3, tt),
    q,
    record { before = bytes; printed = text; mid = at; answered = r; next = s.0; front = []; cut = (refl, s.4); whole = refl; said = sym (append-nil text) },
  )

  -- the script ends between two lines
  pub breaks-between : (first after new : Input R read) (a b : Option (List ℕ)) (h k : List ℕ) (old at : At (World K)) (bytes text : List ℕ) (why : ShellFault) → (why ≡ fault.BadStart → ⊥) → (why ≡ fault.Turns → ⊥)
      → Reads read first bytes after → Prints a h text b k → AnswersLines (world_rules tickets) old bytes text at → IfInput why unseen → IfInput why (Stops read (λ bytes rest. IsOneLine bytes) after new) → IfHalted why (Reads read after [] new) → Ending first new a b h k old why
  breaks-between first after new a b h k old at bytes text fault.BadStart other distinct p q r u s kept = absurd (other refl)
  breaks-between first after new a b h k old at bytes text fault.Input other distinct p q r u s kept = stopped first after new a b h k old at bytes text p q r (s.0, s.1, s.2, s.3, inl (s.4, inl u))
  breaks-between first after new a b h k old at bytes text fault.Output other distinct p q r u s kept =
      between first after new a b h k old at bytes text fault.Output tt (subst (λ (z : List ℕ). Reads read first z new) (append-nil bytes) (reads-then read first after new bytes [] p kept)) (inl (refl, refl)) p q r
  breaks-between first after new a b h k old at bytes text fault.Memory other distinct p q r u s kept =
      between first after new a b h k old at bytes text fault.Memory tt (subst (λ (z : List ℕ). Reads read first z new) (append-nil bytes) (reads-then read first after new bytes [] p kept)) (inl (refl, refl)) p q r
  breaks-between first after new a b h k old at bytes text fault.Turns other distinct p q r u s kept = absurd (distinct refl)

  -- the script ends within a turn whose bytes are `next`
  within-turn : (first before new : Input R read) (a b c d : Option (List ℕ)) (h k l m : List ℕ) (old at : At (World K)) (next bytes text front : List ℕ) (why : ShellFault)
      → IfInput why (Counts read first (bytes ++ next) new) → BreaksIn unseen (IsOver read new (coming read new)) why at next (coming read new) front
      → Reads read first bytes before → Prints a h text b k → AnswersLines (world_rules tickets) old bytes text at → Reads read before next new → Prints b k [] c l → Prints c l front d m → Ending first new a d h m old why
  within-turn first before new a b c d h k l m old at next bytes text front why counts cut p q r s t u =
      let taken = reads-then read first before new bytes next p s in (
        bytes ++ next,
        coming read new,
        text ++ front,
        (starts read first new (bytes ++ next) taken, counts, in-halted why (Reads read first (bytes ++ next) new) taken),
        prints-then a b d h text k front m q (prints-nothing-then b c d k l front m t u),
        record { before = bytes; printed = text; mid = at; answered = r; next = next; front = front; cut = cut; whole = refl; said = refl },
      )

  -- the script ends within the reply to a line
  pub breaks-line : (first before mid new : Input R read) (a b c d : Option (List ℕ)) (h k l m : List ℕ) (old at : At (World K)) (line raw bytes text : List ℕ) (why : ShellFault)
      → Reads read first bytes before → Prints a h text b k → AnswersLines (world_rules tickets) old bytes text at
      → list_any (λ x. x == 10) raw ≡ false → line ≡ strip_last 13 raw → Reads read before (raw ++ 10 ∷ []) mid → Prints b k [] c l
      → PrintsCut why (λ said. IsListing at line said) c l d m → IfInput why (Stops read (λ behind rest. Fails (Short new rest) at.world.state.table.schema line behind) mid new)
      → IfHalted why (TakesFor read (command_of at.world.state.table.schema line) mid new) → Ending first new a d h m old why
  breaks-line first before mid new a b c d h k l m old at line raw bytes text fault.BadStart p q r one stripped s t u v w = absurd u.2
  breaks-line first before mid new a b c d h k l m old at line raw bytes text fault.Input p q r one stripped s t u v w =
      stopped first before new a d h m old at bytes text p (nothing-printed a b c d h k l m text u.0 q t u.1 u.2) r (stops-line read before mid new raw line unseen (λ rest. Fails (Short new rest) at.world.state.table.schema) one stripped s v)
  breaks-line first before mid new a b c d h k l m old at line raw bytes text fault.Output p q r one stripped s t u v w =
      within-turn first before new a b c d h k l m old at (raw ++ 10 ∷ w.0) bytes text u.0 fault.Output tt
      (inr (inl (raw, w.0, one, refl, subst (λ (z : List ℕ). IsStopped at z w.0 u.0) stripped (w.2, u.2)))) p q r
      (subst (λ (z : List ℕ). Reads read before z new) (append_assoc raw (10 ∷ []) w.0) (reads-then read before mid new (raw ++ 10 ∷ []) w.0 s w.1)) t u.1
  breaks-line first before mid new a b c d h k l m old at line raw bytes text fault.Memory p q r one stripped s t u v w =
      within-turn first before new a b c d h k l m old at (raw ++ 10 ∷ w.0) bytes text u.0 fault.Memory tt
      (inr (inl (raw, w.0, one, refl, subst (λ (z : List ℕ). IsStopped at z w.0 u.0) stripped (w.2, u.2)))) p q r
      (subst (λ (z : List ℕ). Reads read before z new) (append_assoc raw (10 ∷ []) w.0) (reads-then read before mid new (raw ++ 10 ∷ []) w.0 s w.1)) t u.1
  breaks-line first before mid new a b c d h k l m old at line raw bytes text fault.Turns p q r one stripped s t u v w = absurd u.2

  -- the script ends within the reply to the last line
  pub breaks-last : (first before mid new : Input R read) (a b c d : Option (List ℕ)) (h k l m : List ℕ) (old at : At (World K)) (line bytes text : List ℕ) (why : ShellFault)
      → Reads read first bytes before → Prints a h text b k → AnswersLines (world_rules tickets) old bytes text at
      → list_any (λ x. x == 10) line ≡ false → Reads read before line mid → IsAtEnd read mid → Prints b k [] c l
      → PrintsCut why (λ said. IsListing at line said) c l d m → IfInput why (Stops read (λ behind rest. Fails (Short new rest) at.world.state.table.schema line behind) mid new)
      → IfHalted why (TakesFor read (command_of at.world.state.table.schema line) mid new) → Ending first new a d h m old why
  breaks-last first before mid new a b c d h k l m old at line bytes text fault.BadStart p q r one s spent t u v w = absurd u.2
  breaks-last first before mid new a b c d h k l m old at line bytes text fault.Input p q r one s spent t u v w =
      stopped first before new a d h m old at bytes text p (nothing-printed a b c d h k l m text u.0 q t u.1 u.2) r
      (stops-last read before mid new line unseen (λ rest. Fails (Short new rest) at.world.state.table.schema) one s spent v)
  breaks-last first before mid new a b c d h k l m old at line bytes text fault.Output p q r one s spent t u v w =
      let none : w.0 ≡ [] = spent-nothing read mid new w.0 spent w.1 in
      within-turn first before new a b c d h k l m old at line bytes text u.0 fault.Output tt
      (inr (inr (one, spent-rest read new (spent-stays read mid new w.0 spent w.1), (inl refl, u.2)))) p q r
      (subst (λ (z : List ℕ). Reads read before z new) (ap (λ (z : List ℕ). line ++ z) none ∙ append-nil line) (reads-then read before mid new line w.0 s w.1)) t u.1
  breaks-last first before mid new a b c d h k l m old at line bytes text fault.Memory p q r one s spent t u v w =
      let none : w.0 ≡ [] = spent-nothing read mid new w.0 spent w.1 in
      within-turn first before new a b c d h k l m old at line bytes text u.0 fault.Memory tt
      (inr (inr (one, spent-rest read new (spent-stays read mid new w.0 spent w.1), (inl refl, u.2)))) p q r
      (subst (λ (z : List ℕ). Reads read before z new) (ap (λ (z : List ℕ). line ++ z) none ∙ append-nil line) (reads-then read before mid new line w.0 s w.1)) t u.1
  breaks-last first before mid new a b c d h k l m old at line bytes text fault.Turns p q r one s spent t u v w = absurd u.2

module _ {R : Type 0} (read : Ghosts R) {S K : Type 0} (tickets : Tickets S K) (unseen : Type 0) where
  -- a script ends early whose first command opens a table
  abbrev pub Serving : Input R read → Input R read → Option (List ℕ) → Option (List ℕ) → List ℕ → List ℕ → Opened → ShellFault → Type 0
  Serving first new a b h k opened why = (bytes : List ℕ) × (rest : List ℕ) × (text : List ℕ) × Gives read why first new bytes rest × Prints a h text b k × BreaksServing tickets unseen (IsOver read new rest) opened why bytes rest text

  -- the table is not opened
  pub rejects-table : (input : Input R read) (u : Option (List ℕ)) (held left text : List ℕ) (opened : Opened) (why : ShellFault) → left ≡ held ++ text → Rejection why (IsRefused opened) text → Serving input input u u held left opened why
  rejects-table input u held left text opened why e h = (
    [],
    coming read input,
    text,
    (starts read input input [] (reads-none read input input refl), rejected-input why (IsRefused opened) text (Counts read input [] input) h, in-halted why (Reads read input [] input) (reads-none read input input refl)),
    prints u held text left e,
    inl (refl, h),
  )

  -- the table is opened, and its lines end early
  pub breaks-lines : (old new : Input R read) (u w : Option (List ℕ)) (held k left bytes rest text : List ℕ) (opened : Opened) (at : At (World K)) (why : ShellFault)
      → k ≡ held ++ codes "ok\n" → IsNew (world_rules tickets) opened at → Gives read why old new bytes rest → Prints u k text w left → BreaksOff tickets unseen (IsOver read new rest) at why bytes rest text
      → Serving old new u w held left opened why
  breaks-lines old new u w held k left bytes rest text opened at why e fresh g q b =
      (bytes, rest, codes "ok\n" ++ text, g, prints-then u u w held (codes "ok\n") k text left (prints u held (codes "ok\n") k e) q, inr (at, text, fresh, b, refl))

-- the first command is invalid
pub not-begun : (unseen spent : Type 0) (why : ShellFault) (says : List ℕ → Type 0) (bytes rest text : List ℕ) → Rejection why says text → (says text → Rejects bytes (rest ≡ []) text) → IsAtStart bytes (rest ≡ []) → HasNotBegun unseen spent why bytes rest text
not-begun unseen spent fault.BadStart says bytes rest text h f starting = f h
not-begun unseen spent fault.Input says bytes rest text h f starting = absurd h
not-begun unseen spent fault.Output says bytes rest text h f starting = absurd h
not-begun unseen spent fault.Memory says bytes rest text h f starting = (h, starting)
not-begun unseen spent fault.Turns says bytes rest text h f starting = absurd h

module _ {R : Type 0} (read : Ghosts R) (unseen : Type 0) where
  -- the first command of a script ends early
  abbrev pub Starting : Input R read → Input R read → Option (List ℕ) → Option (List ℕ) → List ℕ → List ℕ → ShellFault → Type 0
  Starting first new a b h k why = (bytes : List ℕ) × (rest : List ℕ) × (text : List ℕ) × Gives read why first new bytes rest × Prints a h text b k × HasNotBegun unseen (IsOver read new rest) why bytes rest text

  -- no command was read yet
  pub breaks-first : (first before new : Input R read) (a b : Option (List ℕ)) (h k blank : List ℕ) (blanks : List (List ℕ)) (why : ShellFault) → (why ≡ fault.BadStart → ⊥) → (why ≡ fault.Turns → ⊥)
      → Reads read first blank before → Blank blank blanks → Prints a h [] b k → IfInput why (Stops read (λ bytes rest. HasNoTurn unseen (IsOver read new rest) (λ line behind. ¬ (IsUtf8 line)) bytes) before new) → IfHalted why (Reads read before [] new) → Starting first new a b h k why
  breaks-first first before new a b h k blank blanks fault.BadStart other distinct p empty q s kept = absurd (other refl)
  breaks-first first before new a b h k blank blanks fault.Input other distinct p empty q s kept = (
    blank ++ s.0,
    s.1,
    [],
    (starts-then read first before blank s.0 s.1 p s.2, counts-then read first before new blank s.0 p s.3, tt),
    q,
    (record { blanks = blanks; blank = blank; empty = empty; next = s.0; none = s.4; whole = refl }, refl),
  )
  breaks-first first before new a b h k blank blanks fault.Output other distinct p empty q s kept =
      let taken = subst (λ (z : List ℕ). Reads read first z new) (append-nil blank) (reads-then read first before new blank [] p kept) in
      (blank, coming read new, [], (starts read first new blank taken, tt, taken), q, (refl, inl (blanks, empty)))
  breaks-first first before new a b h k blank blanks fault.Memory other distinct p empty q s kept =
      let taken = subst (λ (z : List ℕ). Reads read first z new) (append-nil blank) (reads-then read first before new blank [] p kept) in
      (blank, coming read new, [], (starts read first new blank taken, tt, taken), q, (refl, inl (blanks, empty)))
  breaks-first first before new a b h k blank blanks fault.Turns other distinct p empty q s kept = absurd (distinct refl)

  -- the first command is not a first line
  pub rejects-first : (old mid : Input R read) (u w : Option (List ℕ)) (held l left first line text : List ℕ) (why : ShellFault)
      → Reads read old first mid → Begins first (IsAtEnd read mid) line → Prints u held [] w l → left ≡ l ++ text → Rejection why (IsUnknown line) text
      → Starting old mid u w held left why
  rejects-first old mid u w held l left first line text why p b q e h = (
    first,
    coming read mid,
    text,
    (starts read old mid first p, rejected-input why (IsUnknown line) text (Counts read old first mid) h, in-halted why (Reads read old first mid) p),
    prints-nothing-then u w w held l text left q (prints w l text left e),
    (
        let begun = begins-then first line (IsAtEnd read mid) (coming read mid ≡ []) (spent-rest read mid) b in
        not-begun unseen (IsOver read mid (coming read mid)) why (IsUnknown line) first (coming read mid) text h (λ unknown. inl (line, begun, inl unknown)) (inr (line, begun))
        ),
  )

  -- the script has no first command
  pub rejects-none : (old before mid : Input R read) (u v w : Option (List ℕ)) (held k l bytes line : List ℕ) (blanks : List (List ℕ))
      → Reads read old bytes before → Prints u held [] v k → Blank bytes blanks → line ≡ [] → Reads read before line mid → Prints v k [] w l → IsAtEnd read mid
      → Starting old mid u w held l fault.BadStart
  rejects-none old before mid u v w held k l bytes line blanks p q b none s t spent = (
    bytes,
    coming read mid,
    [],
    (
      subst (λ (z : List ℕ). StartsWith read old z (coming read mid)) (ap (λ (z : List ℕ). bytes ++ z) none ∙ append-nil bytes) (starts-then read old before bytes line (coming read mid) p (starts read before mid line s)),
      tt,
      tt,
    ),
    prints-nothing-then u v w held k [] l q t,
    inr ((blanks, b, spent-rest read mid spent), refl),
  )

-- weaker reasons why no more bytes came
fails-as : (A B : Type 0) (kinds : List Kind) (line behind : List ℕ) → (A → B) → Fails A kinds line behind → Fails B kinds line behind
fails-as A B kinds line behind f (inl h) = inl h
fails-as A B kinds line behind f (inr h) = inr (h.0, h.1, either (λ low. (low.0, f low.1)) (λ u. u) h.2)

turn-as : (P Q A B : Type 0) (fails others : List ℕ → List ℕ → Type 0) (bytes : List ℕ) → (P → Q) → (A → B) → ((line behind : List ℕ) → fails line behind → others line behind) → HasNoTurn P A fails bytes → HasNoTurn Q B others bytes
turn-as P Q A B fails others bytes f s g (inl h) = inl (h.0, either f (λ (x : A × fails bytes []). (s x.0, g bytes [] x.1)) h.1)
turn-as P Q A B fails others bytes f s g (inr h) = inr (h.0, h.1, h.2, h.3, g (without_return h.0) h.1 h.4)

not-begun-as : (P Q A B : Type 0) (why : ShellFault) (bytes rest text : List ℕ) → IfInput why (P → Q) → (A → B) → HasNotBegun P A why bytes rest text → HasNotBegun Q B why bytes rest text
not-begun-as P Q A B fault.BadStart bytes rest text f s h = h
not-begun-as P Q A B fault.Input bytes rest text f s h =
    let b = h.0 in
    let none = turn-as P Q A B (λ line behind. ¬ (IsUtf8 line)) (λ line behind. ¬ (IsUtf8 line)) b.next f s (λ line behind x. x) b.none in
    (record { blanks = b.blanks; blank = b.blank; empty = b.empty; next = b.next; none = none; whole = b.whole }, h.1)
not-begun-as P Q A B fault.Output bytes rest text f s h = h
not-begun-as P Q A B fault.Memory bytes rest text f s h = h
not-begun-as P Q A B fault.Turns bytes rest text f s h = h

breaks-in-as : {K : Type 0} (P Q A B : Type 0) (why : ShellFault) (at : At (World K)) (next rest front : List ℕ) → IfInput why (P → Q) → (A → B) → BreaksIn P A why at next rest front → BreaksIn Q B why at next rest front
breaks-in-as P Q A B fault.BadStart at next rest front f s h = h
breaks-in-as P Q A B fault.Input at next rest front f s h =
    let kinds = at.world.state.table.schema in
    (h.0, turn-as P Q A B (Fails (A ⊎ P) kinds) (Fails (B ⊎ Q) kinds) next f s (λ line behind x. fails-as (A ⊎ P) (B ⊎ Q) kinds line behind (λ short. either s f short) x) h.1)
breaks-in-as P Q A B fault.Output at next rest front f s h = h
breaks-in-as P Q A B fault.Memory at next rest front f s h = h
breaks-in-as P Q A B fault.Turns at next rest front f s h = h

module _ {S K : Type 0} (tickets : Tickets S K) (P Q A B : Type 0) where
  breaks-off-as : (old : At (World K)) (why : ShellFault) (bytes rest text : List ℕ) → IfInput why (P → Q) → (A → B) → BreaksOff tickets P A old why bytes rest text → BreaksOff tickets Q B old why bytes rest text
  breaks-off-as old why bytes rest text f s b = record {
    before = b.before;
    printed = b.printed;
    mid = b.mid;
    answered = b.answered;
    next = b.next;
    front = b.front;
    cut = breaks-in-as P Q A B why b.mid b.next rest b.front f s b.cut;
    whole = b.whole;
    said = b.said;
  }

  -- a script whose first command opens a table ends early for weaker reasons
  pub breaks-serving-as : (opened : Opened) (why : ShellFault) (bytes rest text : List ℕ) → IfInput why (P → Q) → (A → B) → BreaksServing tickets P A opened why bytes rest text → BreaksServing tickets Q B opened why bytes rest text
  breaks-serving-as opened why bytes rest text f s (inl h) = inl h
  breaks-serving-as opened why bytes rest text f s (inr h) = inr (h.0, h.1, h.2, breaks-off-as h.0 why bytes rest h.1 f s h.3, h.4)

  later-as : (why : ShellFault) (bytes rest text : List ℕ) → IfInput why (P → Q) → (A → B) → BreaksLater tickets P A why bytes rest text → BreaksLater tickets Q B why bytes rest text
  later-as why bytes rest text f s b =
      record { first = b.first; at = b.at; more = b.more; tail = b.tail; opens = b.opens; breaks = breaks-off-as b.at why b.more rest b.tail f s b.breaks; whole = b.whole; said = b.said }

  -- a script ends before or after its first command for weaker reasons
  pub first-or-later : (why : ShellFault) (bytes rest text : List ℕ) → IfInput why (P → Q) → (A → B) → HasNotBegun P A why bytes rest text ⊎ BreaksLater tickets P A why bytes rest text
      → HasNotBegun Q B why bytes rest text ⊎ BreaksLater tickets Q B why bytes rest text
  first-or-later why bytes rest text f s h = either (λ x. not-begun-as P Q A B why bytes rest text f s x) (λ x. later-as why bytes rest text f s x) h

module _ {R : Type 0} (read : Ghosts R) (may_fail : Type 0) where
  -- why a load lacks bytes, counted from an earlier read
  pub if-short : (why : ShellFault) (old mid new : Input R read) (bytes : List ℕ) → Reads read old bytes mid → mid.source.reads ≤ old.source.reads → (kinds : List Kind) (line : List ℕ)
      → IfInput why (Stops read (λ behind rest. Fails (IsShort read may_fail mid new rest) kinds line behind) mid new) → IfInput why (Stops read (λ behind rest. Fails (IsShort read may_fail old new rest) kinds line behind) mid new)
  if-short why old mid new bytes p low kinds line h =
      if-input why _ _ (λ s. stops-more read mid new (λ behind rest. Fails (IsShort read may_fail mid new rest) kinds line behind) (λ behind rest. Fails (IsShort read may_fail old new rest) kinds line behind)
      (λ behind rest f. fails-as (IsShort read may_fail mid new rest) (IsShort read may_fail old new rest) kinds line behind (λ short. short-later read may_fail old mid new bytes rest p low short) f) s) h
