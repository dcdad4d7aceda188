-- Contents that a host delivers: for which ticket, and how the store checks the bytes.
use Rattle.std.specs.Prelude.{◌≡◌, ℕ, List, [], ◌∷◌, Option, None, Some, IfSome, IsSomeAnd}
use Rattle.std.specs.Option.{option_and_then}
use Rattle.far_types.specs.declared.refusal.Refusal.{Refusal}
use Rattle.far_frame.specs.Carrying.{wanted_of}
use Rattle.far_frame.specs.Jobs.{JobRecord, IsOneOf}
use Rattle.far_frame.specs.Waiting.{job_at}
use Rattle.far_frame.specs.Worlds.{World}

-- why delivered bytes are refused: by a test that fails, because they are not the bytes that were put, or for lack of memory
abbrev pub DeliveryRefusal : Option Refusal → Refusal → Type 0
DeliveryRefusal (Some due) given = given ≡ due
DeliveryRefusal None given = IsOneOf (21 ∷ 1 ∷ []) given

module _ {K : Type 0} where
  -- the ticket with this number, among those whose contents job n has yet to read
  abbrev pub wanted_by : (K → ℕ) → World K → ℕ → ℕ → Option K
  wanted_by number_of world n number = option_and_then
      (λ (job : JobRecord K). wanted_of number_of job.work number) (job_at world.jobs n)

  -- the bytes are the content of the wanted ticket
  abbrev pub IsContentOf : (K → List ℕ) → Option K → List ℕ → Type 0
  IsContentOf content wanted bytes = IsSomeAnd wanted (λ ticket. bytes ≡ content ticket)

  module _ (matches : K → List ℕ → Type 0) where
    -- the bytes do not match what the store noted of the wanted ticket's content
    abbrev pub IsOther : Option K → List ℕ → Type 0
    IsOther wanted bytes = IsSomeAnd wanted (λ ticket. ¬ (matches ticket bytes))

    -- if the bytes match what the store noted, they are the wanted content
    abbrev pub HasNoCollision : (K → List ℕ) → Option K → List ℕ → Type 0
    HasNoCollision content wanted bytes = IfSome wanted
        (λ ticket. matches ticket bytes → bytes ≡ content ticket)
