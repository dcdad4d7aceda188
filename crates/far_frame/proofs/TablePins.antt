-- After any run of the table each pinned chunk is local.
use Rattle.std.proofs.Common.{◌≡◌, ◌==◌, ◌&&◌, ℕ, ◌+◌, ◌-◌, Bool, true, false, List, [], ◌∷◌, Option, None, Some, IsSomeAnd, refl, sym, subst, ◌∙◌, arith}
use Rattle.std.specs.Prelude.{cond}
use Rattle.std.proofs.lemmas.Bool.{and_parts, eqb-true}
use Rattle.far_types.specs.declared.refusal.Refusal.{Refusal}
use Rattle.far_types.specs.declared.refusal.Refusal.TheVariants as refusal
use Rattle.far_types.specs.FirstOf.{first_of}
use Rattle.far_types.specs.Table.{Table}
use Rattle.far_table.specs.Watching.{after_register_at, lowest_free}
use Rattle.far_frame.specs.declared.step.Step.{Step}
use Rattle.far_frame.specs.declared.step.Step.TheVariants as step
use Rattle.far_frame.specs.declared.step.Reply.{Reply}
use Rattle.far_frame.specs.declared.step.Reply.TheVariants as reply
use Rattle.far_frame.specs.TableRefusals.{TableState, IsReason, away, due, no_column, no_group}
use Rattle.far_frame.specs.TableRuns.{IsTableStep, IsTableServed, IsTableRun, ArePinnedLocal, changed}
use Rattle.far_frame.proofs.PinsRows.{no-some}
use Rattle.far_frame.proofs.StepsLaws.{replied}

-- if no test of a list applies, the third does not
third-off : (one two three : Bool × Refusal) (more : List (Bool × Refusal)) → first_of (one ∷ two ∷ three ∷ more) ≡ None → three.0 ≡ false
third-off (true, d) two three more is = no-some d (sym is)
third-off (false, d) (true, c) three more is = no-some c (sym is)
third-off (false, d) (false, c) (true, b) more is = no-some b (sym is)
third-off (false, d) (false, c) (false, b) more is = refl

less : (n : ℕ) → n ≡ 0 → n - 1 ≡ 0
less n none = omega (arith, none)

module _ (old new : TableState) where
  same-pinned : new ≡ old → ArePinnedLocal old → ArePinnedLocal new
  same-pinned same all = subst ArePinnedLocal (sym same) all

  -- changing only the table keeps pinned chunks local
  table-pinned : (table : Table) → new ≡ record old { table = table } → ArePinnedLocal old → ArePinnedLocal new
  table-pinned table same all = subst ArePinnedLocal (sym same) all

  watched : (P : ℕ → Type 0) (f : ℕ → Table) (found : Option ℕ) → IsSomeAnd found (λ a. P a × (new ≡ record old { table = f a })) → ArePinnedLocal old → ArePinnedLocal new
  watched P f None h all = absurd h
  watched P f (Some a) h all = table-pinned (f a) h.1 all

  -- changing the pins of one chunk keeps pinned chunks local, if this chunk is local or has no pin afterwards
  pins-changed : (c g n : ℕ) → new ≡ record old { pins = changed c g n old.pins } → ((n ≡ 0 → ⊥) → old.is_away c g ≡ false) → ArePinnedLocal old → ArePinnedLocal new
  pins-changed c g n same local all = subst ArePinnedLocal (sym same) (λ d h. by d h (d == c && h == g) refl) where
    by : (d h : ℕ) (b : Bool) → (d == c && h == g) ≡ b → (cond b n (old.pins d h) ≡ 0 → ⊥) → old.is_away d h ≡ false
    by d h true is some =
        let parts = and_parts (d == c) (h == g) is in
        let column : d ≡ c = eqb-true d c parts.0 in
        let group : h ≡ g = eqb-true h g parts.1 in
        (λ i. old.is_away (column i) (group i)) ∙ local some
    by d h false is some = all d h some

  -- evicting a chunk without pins, or fetching one, keeps pinned chunks local
  away-changed : (c g : ℕ) (b : Bool) → new ≡ record old { is_away = changed c g b old.is_away } → (b ≡ true → old.pins c g ≡ 0) → ArePinnedLocal old → ArePinnedLocal new
  away-changed c g b same free all = subst ArePinnedLocal (sym same) (λ d h some. by d h (d == c && h == g) refl b free some) where
    by : (d h : ℕ) (t : Bool) → (d == c && h == g) ≡ t → (b : Bool) → (b ≡ true → old.pins c g ≡ 0) → (old.pins d h ≡ 0 → ⊥) → cond t b (old.is_away d h) ≡ false
    by d h true is true free some =
        let parts = and_parts (d == c) (h == g) is in
        let column : d ≡ c = eqb-true d c parts.0 in
        let group : h ≡ g = eqb-true h g parts.1 in
        absurd (some ((λ i. old.pins (column i) (group i)) ∙ free refl))
    by d h true is false free some = refl
    by d h false is b free some = all d h some

  served-pinned : (s : Step) (given : Reply) → due old s ≡ None → IsTableServed old s given new → ArePinnedLocal old → ArePinnedLocal new
  served-pinned (step.Edit e) given free h = table-pinned _ h.1
  served-pinned (step.Watch spec) given free h = watched (λ a. given ≡ reply.Aggregate a) (λ a. after_register_at a spec old.table) (lowest_free old.table) h
  served-pinned (step.Unwatch a) given free h = table-pinned _ h.1
  served-pinned (step.ScanGroup a g) given free h = table-pinned _ h.1
  served-pinned (step.Ask a) given free h = same-pinned h.1
  served-pinned (step.Lend c from to) given free h = same-pinned h.1
  served-pinned (step.Pin c g) given free h = pins-changed c g (old.pins c g + 1) h.1 (λ some. third-off (no_column old.table c) (no_group old.table g) (away old c g) ((old.pins c g == 65535, refusal.EditsUsedUp) ∷ []) free)
  served-pinned (step.Unpin c g) given free h = λ all. pins-changed c g (old.pins c g - 1) h.1 (λ some. all c g (λ none. some (less (old.pins c g) none))) all
  served-pinned (step.Commit n) given free h = away-changed h.1 h.2 true h.5 (λ on. h.4)
  served-pinned (step.Install n) given free h = away-changed h.1 h.2 false h.4 (λ on. absurd (let off : true ≡ false = sym on in cc))
  served-pinned (step.Merge n) given free h = table-pinned _ h.4
  served-pinned (step.Carry n) given free h = same-pinned h.1
  served-pinned (step.Compact kind segment) given free h = same-pinned h.1
  served-pinned (step.Prefetch c) given free h = same-pinned h
  served-pinned (step.BeginEvac c g) given free h = same-pinned h.1
  served-pinned (step.BeginFetch c g) given free h = same-pinned h.1
  served-pinned (step.BeginOffload a g) given free h = same-pinned h.1

  pub step-pinned : (s : Step) (given : Reply) → IsTableStep old s given new → ArePinnedLocal old → ArePinnedLocal new
  step-pinned s given h all = replied (λ served. (due old s ≡ None) × IsTableServed old s served new) (λ why. IsReason old s why × (new ≡ old)) given
      (λ served k. served-pinned s served k.0 k.1 all) (λ why k. same-pinned k.1 all) h

-- so each pinned chunk is local after any list of steps
pub run-pinned : (old : TableState) (steps : List Step) (replies : List Reply) (new : TableState) → IsTableRun old steps replies new → ArePinnedLocal old → ArePinnedLocal new
run-pinned old [] [] new h all = same-pinned old new h all
run-pinned old [] (given ∷ replies) new h all = absurd h
run-pinned old (s ∷ steps) [] new h all = absurd h
run-pinned old (s ∷ steps) (given ∷ replies) new h all = run-pinned h.0 steps replies new h.2 (step-pinned old h.0 s given h.1 all)
