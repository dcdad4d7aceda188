-- Jobs on the objects of rows: how they begin, and when they are accepted.
use Rattle.std.specs.Prelude.{◌≡◌, ℕ, ℤ, ◌<◌, ◌^◌, not, true, false, List, [], ◌∷◌, length, Option, None, Some, FitsSigned, IfSome, IsSomeAnd}
use Rattle.std.specs.Int.{w64}
use Rattle.std.specs.Option.{option_or}
use Rattle.far_types.specs.declared.cell.Kind.{Kind}
use Rattle.far_types.specs.declared.cell.Kind.TheVariants as kind
use Rattle.far_types.specs.declared.refusal.Refusal.{Refusal}
use Rattle.far_types.specs.declared.refusal.Refusal.TheVariants as refusal
use Rattle.far_types.specs.FirstOf.{first_of}
use Rattle.far_codec.specs.FarForm.{FitsCount, ints_form}
use Rattle.far_codec.specs.TextForm.{IsTextsForm}
use Rattle.far_codec.specs.Spelling.{IsSpelled}
use Rattle.far_log.specs.RegionState.{fits_in}
use Rattle.far_scopes.specs.Movement.{AreHere, is_local, pins_of}
use Rattle.far_scopes.specs.Effects.{after_leave, after_arrive}
use Rattle.far_evacuator.specs.Jobs.{Evacuation, CarriedEvacuation, Fetch, CarriedFetch}
use Rattle.far_evacuator.specs.Beginning.{IsBegunEvac, IsFetch}
use Rattle.far_evacuator.specs.Acceptance.{IsCommittable, IsInstallable}
use Rattle.far_texts.specs.Texts.{lists_of}
use Rattle.far_columns.specs.Numbers.{number_lists}
use Rattle.far_rows.specs.declared.object.Object.{Object}
use Rattle.far_rows.specs.declared.object.Object.TheVariants as object
use Rattle.far_rows.specs.Rows.{Rows}
use Rattle.far_rows.specs.Refusing.{absent_in}
use Rattle.far_rows.specs.Moving.{object_at, object_refusal}

-- the bytes are the far form of these numbers
abbrev pub SpellsNumbers : List (Option ℤ) → List ℕ → Type 0
SpellsNumbers = IsSpelled (λ number. IfSome number (FitsSigned w64)) FitsCount ints_form

-- the bytes are this far form of texts; the list of an object of texts is a far form
abbrev pub SpellsTexts : List ℕ → List ℕ → Type 0
SpellsTexts = IsSpelled (λ byte. byte < 2 ^ 8) IsTextsForm (λ bytes. bytes)

module _ {K : Type 0} where
  -- every ticket of the rows is of the store with this id
  pub record AreAt (is_of : K → List ℕ → Type 0) (id : List ℕ) (r : Rows K) : Type 0 where
    pub numbers : AreHere is_of id r.number_objects
    pub texts : AreHere is_of id r.text_objects

  module _ (r : Rows K) where
    -- an object exists and is local
    abbrev pub IsHere : Object → Type 0
    IsHere (object.Number o) =
        (o < length r.number_objects.records) × (is_local r.number_objects o ≡ true)
    IsHere (object.Text o) =
        (o < length r.text_objects.records) × (is_local r.text_objects o ≡ true)

    -- an evacuation of an object, begun on these rows
    abbrev pub IsEvacOf : Object → Evacuation K → Type 0
    IsEvacOf (object.Number o) = IsBegunEvac ints_form r.number_objects o kind.Int
    IsEvacOf (object.Text o) = IsBegunEvac (λ bytes. bytes) r.text_objects o kind.Text

    -- a fetch of an object, begun on these rows
    abbrev pub IsFetchOf : Object → Fetch K → Type 0
    IsFetchOf (object.Number o) = IsFetch r.number_objects o kind.Int
    IsFetchOf (object.Text o) = IsFetch r.text_objects o kind.Text

    module _ (column group : ℕ) where
      -- an evacuation of the object of a row group of a column, begun on these rows
      abbrev pub IsEvacBegun : Evacuation K → Type 0
      IsEvacBegun job = IsSomeAnd (object_at r column group) (λ object. IsEvacOf object job)

      -- a fetch of the object of a row group of a column, begun on these rows
      abbrev pub IsFetchBegun : Fetch K → Type 0
      IsFetchBegun job = IsSomeAnd (object_at r column group) (λ object. IsFetchOf object job)

      -- why beginning an evacuation is refused: there is no such object, or it is away
      abbrev pub evac_refusal : Option Refusal
      evac_refusal =
          option_or (object_refusal r column group) (first_of (absent_in r column group ∷ []))

      -- why beginning a fetch is refused: there is no such object, or it is local
      abbrev pub fetch_refusal : Option Refusal
      fetch_refusal =
          option_or (object_refusal r column group)
          (first_of ((not (absent_in r column group).0, refusal.StaleJob) ∷ []))

      -- the object is the one of a row group of a column, and its evacuation may begin
      pub record IsEvictable (object : Object) : Type 0 where
        pub named : object_at r column group ≡ Some object
        pub local : IsHere object
        pub free : evac_refusal ≡ None

    -- how many pins object o of a kind has
    abbrev pub pins_in : Kind → ℕ → ℕ
    pins_in kind.Int o = pins_of r.number_objects o
    pins_in kind.Text o = pins_of r.text_objects o

    -- the rows after object o of a kind is evicted; its newest far copy has this ticket
    abbrev pub after_leave_in : Kind → ℕ → K → Rows K
    after_leave_in kind.Int o ticket =
        record r { number_objects = after_leave r.number_objects o ticket }
    after_leave_in kind.Text o ticket =
        record r { text_objects = after_leave r.text_objects o ticket }

    -- how many pins the object of a carried evacuation has
    abbrev pub pins_by : CarriedEvacuation K → ℕ
    pins_by carried = pins_in carried.job.kind carried.job.object

    -- the rows after the object of a carried evacuation is evicted
    abbrev pub after_commit : CarriedEvacuation K → Rows K
    after_commit carried = after_leave_in carried.job.kind carried.job.object carried.ticket

  module _ (number_of : K → ℕ) (r : Rows K) where
    -- when a carried evacuation can be committed as one of an object of this kind
    abbrev pub IsEvacAcceptedIn : Kind → CarriedEvacuation K → Type 0
    IsEvacAcceptedIn kind.Int = IsCommittable number_of ints_form r.number_objects
    IsEvacAcceptedIn kind.Text = IsCommittable number_of (λ bytes. bytes) r.text_objects

    -- when a carried evacuation can be committed, provided that the object has no pin
    abbrev pub IsEvacAccepted : CarriedEvacuation K → Type 0
    IsEvacAccepted carried = IsEvacAcceptedIn carried.job.kind carried

    -- when a carried fetch can be installed as one of an object of this kind
    abbrev pub IsFetchAcceptedIn : Kind → CarriedFetch K → Type 0
    IsFetchAcceptedIn kind.Int = IsInstallable number_of SpellsNumbers r.number_objects
    IsFetchAcceptedIn kind.Text = IsInstallable number_of SpellsTexts r.text_objects

    -- when a carried fetch can be installed, provided that a segment has space for it
    abbrev pub IsFetchAccepted : CarriedFetch K → Type 0
    IsFetchAccepted fetched = IsFetchAcceptedIn fetched.job.kind fetched

  module _ (content : K → List ℕ) (r : Rows K) where
    -- no segment has the space for the list of object o of a kind
    abbrev pub HasNoSpaceIn : Kind → ℕ → Type 0
    HasNoSpaceIn kind.Int o = IsSomeAnd (number_lists content r.number_objects o)
        (λ list. fits_in r.number_objects.memory.state (length list) ≡ false)
    HasNoSpaceIn kind.Text o = IsSomeAnd (lists_of content r.text_objects o)
        (λ list. fits_in r.text_objects.memory.state (length list) ≡ false)

    -- no segment has the space for the list of the fetched object
    abbrev pub HasNoSpace : CarriedFetch K → Type 0
    HasNoSpace fetched = HasNoSpaceIn fetched.job.kind fetched.job.object

    -- the rows after object o of a kind is brought back, with its list
    abbrev pub IsAfterArrive : Kind → ℕ → Rows K → Type 0
    IsAfterArrive kind.Int o now = IsSomeAnd (number_lists content r.number_objects o)
        (λ list. now ≡ record r { number_objects = after_arrive r.number_objects o list })
    IsAfterArrive kind.Text o now = IsSomeAnd (lists_of content r.text_objects o)
        (λ list. now ≡ record r { text_objects = after_arrive r.text_objects o list })

    -- the rows after the fetched object is brought back, with its list
    abbrev pub IsAfterInstall : CarriedFetch K → Rows K → Type 0
    IsAfterInstall fetched = IsAfterArrive fetched.job.kind fetched.job.object
