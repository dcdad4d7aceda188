-- A job: what it computes, and over which contents.
use Rattle.std.specs.Prelude.{ℕ, List, map, Bool}
use Rattle.std.specs.List.{All}
use Rattle.far_types.specs.declared.spec.Spec.{Spec}
use Rattle.far_codec.specs.Lent.{IsForm}
use Rattle.far_offload.specs.Columns.{Columns, cells_meant}

-- a job: the aggregate, the tickets of its columns, and a flag for each place
pub record Job (K : Type 0) : Type 0 where
  pub spec : Spec
  pub tickets : List (ℕ × K)
  pub alive : List Bool

-- the columns that the contents of some tickets encode
abbrev pub columns_under : {K : Type 0} → (K → List ℕ) → List (ℕ × K) → Columns
columns_under content tickets = map (λ ticket. (ticket.0, cells_meant (content ticket.1))) tickets

-- each content is a far form
abbrev pub AreForms : {K : Type 0} → (K → List ℕ) → List (ℕ × K) → Type 0
AreForms content tickets = All (λ ticket. IsForm (content ticket.1)) tickets
