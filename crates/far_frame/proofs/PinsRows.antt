-- Changes of rows that keep the pins of their objects, and keep pinned local objects local.
use Rattle.std.proofs.Common.{◌≡◌, ◌≢◌, ℕ, true, false, List, ℤ, Option, None, Some, IsSomeAnd, refl, sym, ap, subst, ◌∙◌}
use Rattle.far_types.specs.declared.cell.Kind.{Kind}
use Rattle.far_types.specs.declared.cell.Kind.TheVariants as kind
use Rattle.far_texts.specs.Texts.{lists_of}
use Rattle.far_columns.specs.Numbers.{number_lists}
use Rattle.far_rows.specs.declared.object.Object.{Object}
use Rattle.far_rows.specs.declared.object.Object.TheVariants as object
use Rattle.far_rows.specs.Rows.{Rows}
use Rattle.far_rows.specs.Coldest.{pins_at}
use Rattle.far_rows.specs.Jobs.{IsAfterArrive, after_leave_in, pins_in}
use Rattle.far_rows.specs.Moving.{after_pin, after_unpin}
use Rattle.far_table.specs.State.{LiveState}
use Rattle.far_frame.specs.State.{State}
use Rattle.far_frame.specs.declared.job.JobPhase.TheVariants as work
use Rattle.far_frame.specs.Jobs.{WorkOf, Commits, Installs, Merges}
use Rattle.far_frame.specs.Pins.{is_here}
use Rattle.far_scopes.specs.Effects.{after_arrive}
use Rattle.far_frame.proofs.MovementPins.{KeepsPinned, keeps-same, keeps-after_arrive, keeps-after_leave}
use Rattle.far_frame.proofs.RowsAway.{KeepsAwayRows}

pub not-on : {A : Type 0} → false ≡ true → A
not-on h = absurd (let on : true ≡ false = sym h in cc)

pub no-some : {A B : Type 0} (x : A) → None ≡ Some x → B
no-some x h = absurd (let is : None ≡ Some x = h in cc)

pub one-some : {A : Type 0} (x y : A) → Some x ≡ Some y → x ≡ y
one-some x y h = cc

module _ {K : Type 0} where
  -- the objects of the rows keep their pins, and pinned local objects stay local
  pub record KeepsRows (old new : Rows K) : Type 0 where
    pub numbers : KeepsPinned old.number_objects new.number_objects
    pub texts : KeepsPinned old.text_objects new.text_objects

  rows-same : (r : Rows K) → KeepsRows r r
  rows-same r = record { numbers = keeps-same r.number_objects; texts = keeps-same r.text_objects }

  pub rows-are : (old mid new : Rows K) → new ≡ mid → KeepsRows old mid → KeepsRows old new
  rows-are old mid new is k = subst (KeepsRows old) (sym is) k

  pub rows-here : (old new : Rows K) → KeepsRows old new → (o : Object) → pins_at old o ≢ 0 → is_here old o ≡ true → is_here new o ≡ true
  rows-here old new k (object.Number o) some here = k.numbers.here o some here
  rows-here old new k (object.Text o) some here = k.texts.here o some here

  pub rows-pins : (old new : Rows K) → KeepsRows old new → (o : Object) → pins_at new o ≡ pins_at old o
  rows-pins old new k (object.Number o) = k.numbers.pins o
  rows-pins old new k (object.Text o) = k.texts.pins o

  -- rows whose objects stay where they are keep pinned objects local
  pub rows-still : (old new : Rows K) → KeepsAwayRows old new → KeepsRows old new
  rows-still old new k = record {
    numbers = record { pins = k.numbers.pins; here = λ o some here. k.numbers.here o here };
    texts = record { pins = k.texts.pins; here = λ o some here. k.texts.here o here };
  }

  leave-rows : (r : Rows K) (of : Kind) (o : ℕ) (ticket : K) → pins_in r of o ≡ 0 → KeepsRows r (after_leave_in r of o ticket)
  leave-rows r kind.Int o ticket free = record { numbers = keeps-after_leave r.number_objects o ticket free; texts = keeps-same r.text_objects }
  leave-rows r kind.Text o ticket free = record { numbers = keeps-same r.number_objects; texts = keeps-after_leave r.text_objects o ticket free }

  arrive-rows : (content : K → List ℕ) (r now : Rows K) (of : Kind) (o : ℕ) → IsAfterArrive content r of o now → KeepsRows r now
  arrive-rows content r now kind.Int o is = back (number_lists content r.number_objects o) is where
    back : (found : Option (List (Option ℤ))) → IsSomeAnd found (λ list. now ≡ record r { number_objects = after_arrive r.number_objects o list }) → KeepsRows r now
    back None k = absurd k
    back (Some list) k = rows-are r _ now k (record { numbers = keeps-after_arrive r.number_objects o list; texts = keeps-same r.text_objects })
  arrive-rows content r now kind.Text o is = back (lists_of content r.text_objects o) is where
    back : (found : Option (List ℕ)) → IsSomeAnd found (λ list. now ≡ record r { text_objects = after_arrive r.text_objects o list }) → KeepsRows r now
    back None k = absurd k
    back (Some list) k = rows-are r _ now k (record { numbers = keeps-same r.number_objects; texts = keeps-after_arrive r.text_objects o list })

  -- the ends of jobs keep pins
  module _ (number_of : K → ℕ) (old new : State K) where
    pub commits-rows : (w : WorkOf K) → Commits number_of old w new → KeepsRows old.rows new.rows
    commits-rows (work.Carried carried) h =
        rows-are old.rows _ new.rows h.changed.rows.away (leave-rows old.rows carried.job.kind carried.job.object carried.ticket h.changed.rows.free)
    commits-rows (work.Evac evac) h = absurd h
    commits-rows (work.Fetch fetch) h = absurd h
    commits-rows (work.Fetched fetched) h = absurd h
    commits-rows (work.Offload build) h = absurd h
    commits-rows (work.Offloaded build) h = absurd h

    module _ (content : K → List ℕ) where
      pub installs-rows : (w : WorkOf K) → Installs number_of old content w new → KeepsRows old.rows new.rows
      installs-rows (work.Fetched fetched) h = arrive-rows content old.rows new.rows fetched.job.kind fetched.job.object h.changed.rows.back
      installs-rows (work.Evac evac) h = absurd h
      installs-rows (work.Carried carried) h = absurd h
      installs-rows (work.Fetch fetch) h = absurd h
      installs-rows (work.Offload build) h = absurd h
      installs-rows (work.Offloaded build) h = absurd h

    pub merges-rows : (w : WorkOf K) → Merges number_of old w new → KeepsRows old.rows new.rows
    merges-rows (work.Offloaded build) h = rows-are old.rows old.rows new.rows (ap (λ (t : LiveState K). t.rows) h.changed.state) (rows-same old.rows)
    merges-rows (work.Evac evac) h = absurd h
    merges-rows (work.Carried carried) h = absurd h
    merges-rows (work.Fetch fetch) h = absurd h
    merges-rows (work.Fetched fetched) h = absurd h
    merges-rows (work.Offload build) h = absurd h

  pub stays : (old new : State K) → new.rows ≡ old.rows → KeepsRows old.rows new.rows
  stays old new same = rows-are old.rows old.rows new.rows same (rows-same old.rows)

  -- pinning and unpinning leave which objects are local
  pub moves-after_pin : (r now : Rows K) (found : Option Object) → IsSomeAnd found (λ q. now ≡ after_pin r q) → (o : Object) → is_here now o ≡ is_here r o
  moves-after_pin r now None h o = absurd h
  moves-after_pin r now (Some q) h o = ap (λ (t : Rows K). is_here t o) h ∙ by q o where
    by : (q o : Object) → is_here (after_pin r q) o ≡ is_here r o
    by (object.Number q) (object.Number o) = refl
    by (object.Number q) (object.Text o) = refl
    by (object.Text q) (object.Number o) = refl
    by (object.Text q) (object.Text o) = refl

  pub moves-unpinned : (r now : Rows K) (found : Option Object) → IsSomeAnd found (λ q. now ≡ after_unpin r q) → (o : Object) → is_here now o ≡ is_here r o
  moves-unpinned r now None h o = absurd h
  moves-unpinned r now (Some q) h o = ap (λ (t : Rows K). is_here t o) h ∙ by q o where
    by : (q o : Object) → is_here (after_unpin r q) o ≡ is_here r o
    by (object.Number q) (object.Number o) = refl
    by (object.Number q) (object.Text o) = refl
    by (object.Text q) (object.Number o) = refl
    by (object.Text q) (object.Text o) = refl
