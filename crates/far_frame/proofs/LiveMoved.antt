-- A table with its aggregates, after its objects moved.
use Rattle.std.proofs.Common.{◌≡◌, ℕ, List, Result, refl, sym, ap, subst}
use Rattle.std.specs.Prelude.{OnOk, OnErr}
use Rattle.std.proofs.lemmas.Result.{on_ok_weaker}
use Rattle.far_types.specs.declared.refusal.Refusal.{Refusal}
use Rattle.far_scopes.proofs.Outcomes.{by-outcome}
use Rattle.far_aggregates.specs.Accumulators.{RegistryEntry}
use Rattle.far_rows.specs.Rows.{Rows}
use Rattle.far_table.specs.TableRows.{TableRows}
use Rattle.far_table.specs.Live.{IsLive, state_of}
use Rattle.far_table.specs.Moving.{AreMoved, IsMoved}
use Rattle.far_frame.specs.State.{State, Alters, with_accesses}

module _ {K : Type 0} (old now : TableRows K) (registrations : ℕ) (registry : List RegistryEntry) where
  stays-live : now ≡ record old { held = now.held } → IsLive old registrations registry → IsLive now registrations registry
  stays-live stays live = subst (λ (t : TableRows K). IsLive t registrations registry) (sym stays) record { registrations_few = live.registrations_few; kept = live.kept; checked = live.checked }

  -- a call moved objects or was refused
  module _ {A : Type 0} (r : Result A Refusal) (moves : Rows K → Rows K → Type 0) (ok : OnOk r (AreMoved moves old now)) (err : OnErr r (now ≡ old)) where
    pub moved-live : IsLive old registrations registry → IsLive now registrations registry
    moved-live live = by-outcome r ok err (λ (done : AreMoved moves old now). stays-live done.stays live) (λ (same : now ≡ old). subst (λ (t : TableRows K). IsLive t registrations registry) (sym same) live)

    module _ (accesses : List (List ℕ)) (s : State K) (is : with_accesses (state_of old registrations registry) accesses ≡ s) where
      pub moved-state : OnOk r (Alters (IsMoved moves) s (with_accesses (state_of now registrations registry) accesses))
      moved-state = on_ok_weaker r (λ (done : AreMoved moves old now). subst (λ (was : State K). Alters (IsMoved moves) was (with_accesses (state_of now registrations registry) accesses)) is record {
        changed = record { table = ap (λ (t : TableRows K). (state_of t registrations registry).table) done.stays; rows = done.held };
        accesses = refl;
      }) ok
