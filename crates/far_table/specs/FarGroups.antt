-- A row group whose columns were read from the far store for an offloaded build, as it is lent to aggregates.
use Rattle.std.specs.Prelude.{◌≡◌, ◌<◌, ℕ, Bool, true, List, map, IsSomeAnd}
use Rattle.far_types.specs.declared.spec.Spec.{Spec}
use Rattle.far_types.specs.Bounds.{needs}
use Rattle.far_types.specs.Table.{Place, in_group}
use Rattle.far_codec.specs.Lent.{IsForm}
use Rattle.far_offload.specs.Columns.{cells_meant}
use Rattle.far_rows.specs.Rows.{Rows}
use Rattle.far_rows.specs.Places.{places_in}
use Rattle.far_aggregates.specs.Lending.{IsOfPlaces}
use Rattle.far_table.specs.Offloading.{Build, ticket_for}

-- rows, and a carried build of one of their row groups
pub record FarRows (K : Type 0) : Type 0 where
  pub rows : Rows K
  pub build : Build K

-- the contents under some tickets, each with the number of its column
abbrev pub contents_under : {K : Type 0} → (K → List ℕ) → List (ℕ × K) → List (ℕ × List ℕ)
contents_under content tickets = map (λ ticket. (ticket.0, content ticket.1)) tickets

-- each column below `count` that the aggregate needs has the property P
abbrev pub AllNeeded : ℕ → Spec → (ℕ → Type 0) → Type 0
AllNeeded count spec P = (column : ℕ) → column < count → needs spec column ≡ true → P column

module _ {K : Type 0} where
  -- the places of the row group
  abbrev pub places_there : (K → List ℕ) → FarRows K → List Place
  places_there content g = in_group g.rows.size g.build.group (places_in content g.rows)

  -- the columns that the build needs are available
  abbrev pub needs_column : FarRows K → ℕ → Bool
  needs_column g column = needs g.build.job.spec column

  -- a ticket's content is the far form of a column of the row group
  pub record IsCopy (content : K → List ℕ) (r : Rows K) (group column : ℕ)
      (ticket : K) : Type 0 where
    pub form : IsForm (content ticket)
    pub cells : IsOfPlaces (in_group r.size group (places_in content r))
        (column, cells_meant (content ticket))

  -- each ticket that the build needs has the content of a column of the row group, and the build's flags are those of the places
  pub record AreCopies (content : K → List ℕ) (g : FarRows K) : Type 0 where
    pub tickets : (column : ℕ) → needs g.build.job.spec column ≡ true
        → IsSomeAnd (ticket_for g.build.job.tickets column)
        (IsCopy content g.rows g.build.group column)
    pub alive : g.build.job.alive ≡ in_group g.rows.size g.build.group g.rows.alive

  -- the row group lends the specification, the flags and the contents of the build
  pub record AreLentFrom (content : K → List ℕ) (g : FarRows K) (spec : Spec) (flags : List Bool)
      (contents : List (ℕ × List ℕ)) : Type 0 where
    pub copies : AreCopies content g
    pub same_spec : spec ≡ g.build.job.spec
    pub same_flags : flags ≡ g.build.job.alive
    pub same_contents : contents ≡ contents_under content g.build.job.tickets
