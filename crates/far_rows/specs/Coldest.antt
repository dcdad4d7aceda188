-- The object of rows to evict next.
use Rattle.std.specs.Prelude.{ℕ, ◌*◌, nat_le, Bool, cond, Option, option_map}
use Rattle.std.specs.Option.{option_and_then, option_or}
use Rattle.far_types.specs.declared.name.Name.{Name}
use Rattle.far_log.specs.RegionState.{space_of, capacity_of}
use Rattle.far_scopes.specs.Coldest.{coldest as coldest_in}
use Rattle.far_scopes.specs.Movement.{Movement, record_of, pins_of}
use Rattle.far_rows.specs.declared.object.Object.{Object}
use Rattle.far_rows.specs.declared.object.Object.TheVariants as object
use Rattle.far_rows.specs.Rows.{Rows}

-- the name of the coldest object of one kind
abbrev pub coldest_name : {X K : Type 0} → Movement X K → Option Name
coldest_name m =
    option_and_then (λ o. option_map (λ object_record. object_record.name) (record_of m o))
    (coldest_in m)

module _ {K : Type 0} (r : Rows K) where
  -- whether the memory of numbers has at most as much space, in proportion to its capacity, as the memory of texts
  abbrev pub numbers_go_first : Bool
  numbers_go_first =
      let numbers = r.number_objects.memory.state in
      let texts = r.text_objects.memory.state in
      nat_le (space_of numbers * capacity_of texts) (space_of texts * capacity_of numbers)

  -- the name of the object to evict next: the coldest of the kind with less space in proportion or, if it has none, of the second kind
  abbrev pub coldest : Option Name
  coldest =
      cond numbers_go_first
      (option_or (coldest_name r.number_objects) (coldest_name r.text_objects))
      (option_or (coldest_name r.text_objects) (coldest_name r.number_objects))

  -- how many pins an object has
  abbrev pub pins_at : Object → ℕ
  pins_at (object.Number o) = pins_of r.number_objects o
  pins_at (object.Text o) = pins_of r.text_objects o
