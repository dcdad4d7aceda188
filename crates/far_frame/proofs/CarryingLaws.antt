-- The jobs that a world lends, and the tickets in them, are of its store.
use Rattle.std.proofs.Common.{◌≡◌, ℕ, zero, suc, Bool, true, false, cond, List, [], ◌∷◌, Option, None, Some, Bor, sym, subst, IfSome}
use Rattle.std.specs.Prelude.{◌==◌, slice_get}
use Rattle.std.specs.List.{All, find}
use Rattle.std.specs.Option.{option_copied}
use Rattle.std.proofs.lemmas.Option.{none-some}
use Rattle.std.proofs.lemmas.List.Elements.{All-cons, All-head, All-map, All-nil, All-tail}
use Rattle.far_frame.specs.declared.job.JobPhase.TheVariants as work
use Rattle.far_frame.specs.Jobs.{JobRecord, WorkOf, IsJobAt, IsWorkAt}
use Rattle.far_frame.specs.Carrying.{tickets_of_work, wanted_of}
use Rattle.far_frame.specs.Waiting.{Waiting, AreJobsAt, job_at}
use Rattle.far_frame.proofs.WorldsLaws.{job-here}

same-some : {A : Type 0} (x y : A) → Some x ≡ Some y → x ≡ y
same-some x y h = cc

module _ {X : Type 0} (P : X → Type 0) where
  -- a property of all elements is a property of the one that is read
  all-read : (xs : List X) (i : ℕ) (x : X) → All P xs → slice_get xs i ≡ Some x → P x
  all-read [] i x all is = absurd (none-some x is)
  all-read (y ∷ ys) zero x all is = subst P (same-some y x is) (All-head P y ys all)
  all-read (y ∷ ys) (suc i) x all is = all-read ys i x (All-tail P y ys all) is

  found-step : (p : X → Bool) (y x : X) (ys : List X) (b : Bool) → P y → (find p ys ≡ Some x → P x) → cond b (Some y) (find p ys) ≡ Some x → P x
  found-step p y x ys true here rest is = subst P (same-some y x is) here
  found-step p y x ys false here rest is = rest is

  -- a property of all elements is a property of the one that is found
  all-found : (p : X → Bool) (xs : List X) (x : X) → All P xs → find p xs ≡ Some x → P x
  all-found p [] x all is = absurd (none-some x is)
  all-found p (y ∷ ys) x all is = found-step p y x ys (p y) (All-head P y ys all) (all-found p ys x (All-tail P y ys all)) is

module _ {K : Type 0} (is_of : K → List ℕ → Type 0) (id : List ℕ) where
  abbrev IsHere : K → Type 0
  IsHere ticket = is_of ticket id

  tickets-here : (w : WorkOf K) → IsWorkAt is_of id w → All IsHere (tickets_of_work w)
  tickets-here (work.Evac evac) here = All-nil IsHere
  tickets-here (work.Carried carried) here = All-nil IsHere
  tickets-here (work.Fetch fetch) here = All-cons IsHere fetch.ticket [] here (All-nil IsHere)
  tickets-here (work.Fetched fetched) here = All-cons IsHere fetched.job.ticket [] here (All-nil IsHere)
  tickets-here (work.Offload build) here = All-map IsHere (λ ticket. ticket.1) build.job.tickets here
  tickets-here (work.Offloaded build) here = All-map IsHere (λ ticket. ticket.1) build.job.tickets here

  -- a ticket that a job has read is of the store
  pub ticket-here : (w : WorkOf K) (i : ℕ) (ticket : K) → IsWorkAt is_of id w → slice_get (tickets_of_work w) i ≡ Some ticket → is_of ticket id
  ticket-here w i ticket here is = all-read IsHere (tickets_of_work w) i ticket (tickets-here w here) is

  -- a ticket that a job still has to read is of the store
  pub wanted-here : (number_of : K → ℕ) (w : WorkOf K) (number : ℕ) (ticket : K) → IsWorkAt is_of id w → wanted_of number_of w number ≡ Some ticket → is_of ticket id
  wanted-here number_of (work.Evac evac) number ticket here is = absurd (none-some ticket is)
  wanted-here number_of (work.Carried carried) number ticket here is = absurd (none-some ticket is)
  wanted-here number_of (work.Fetch fetch) number ticket here is = all-found IsHere (λ own. number_of own == number) (tickets_of_work (work.Fetch fetch)) ticket (tickets-here (work.Fetch fetch) here) is
  wanted-here number_of (work.Fetched fetched) number ticket here is = absurd (none-some ticket is)
  wanted-here number_of (work.Offload build) number ticket here is = all-found IsHere (λ own. number_of own == number) (tickets_of_work (work.Offload build)) ticket (tickets-here (work.Offload build) here) is
  wanted-here number_of (work.Offloaded build) number ticket here is = absurd (none-some ticket is)

  -- a job that the world lends is of the store
  pub lent-here : (waiting : Waiting K) (n : ℕ) (found : Option (Bor (JobRecord K))) → AreJobsAt is_of id waiting → option_copied found ≡ job_at waiting n → IfSome found (λ job. IsJobAt is_of id job.now)
  lent-here waiting n None all is = tt
  lent-here waiting n (Some job) all is = job-here is_of id waiting n job.now all (sym is)
