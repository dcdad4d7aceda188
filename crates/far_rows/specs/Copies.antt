-- The far copies of the objects of rows.
use Rattle.std.specs.Prelude.{ℕ, cond, List, Option, None, IsSomeAnd}
use Rattle.std.specs.Option.{option_and_then}
use Rattle.far_scopes.specs.Movement.{Movement, dirty, ticket_of}
use Rattle.far_columns.specs.Numbers.{number_lists}
use Rattle.far_texts.specs.Texts.{lists_of}
use Rattle.far_rows.specs.declared.object.Object.{Object}
use Rattle.far_rows.specs.declared.object.Object.TheVariants as object
use Rattle.far_rows.specs.Rows.{Rows}
use Rattle.far_rows.specs.Moving.{object_at}
use Rattle.far_rows.specs.Jobs.{SpellsNumbers, SpellsTexts}

module _ {K : Type 0} where
  -- the ticket of an object; none if the object is dirty
  abbrev pub clean_ticket : {X : Type 0} → Movement X K → ℕ → Option K
  clean_ticket m o = cond (dirty m o) None (ticket_of m o)

  -- the ticket of an object of either kind; none if the object is dirty
  abbrev pub copy_in : Rows K → Object → Option K
  copy_in r (object.Number o) = clean_ticket r.number_objects o
  copy_in r (object.Text o) = clean_ticket r.text_objects o

  -- the ticket of the far copy of a row group of a column; none if its object is dirty, or does not exist
  abbrev pub copy_of : Rows K → ℕ → ℕ → Option K
  copy_of r column group = option_and_then (copy_in r) (object_at r column group)

  module _ (content : K → List ℕ) (r : Rows K) (ticket : K) where
    -- the content of a ticket is the far form of an object
    abbrev pub Spells : Object → Type 0
    Spells (object.Number o) =
        IsSomeAnd (number_lists content r.number_objects o)
        (λ list. SpellsNumbers list (content ticket))
    Spells (object.Text o) =
        IsSomeAnd (lists_of content r.text_objects o) (λ list. SpellsTexts list (content ticket))

    -- the content of a ticket is the far form of a row group of a column
    abbrev pub IsCopyOf : ℕ → ℕ → Type 0
    IsCopyOf column group = IsSomeAnd (object_at r column group) Spells
