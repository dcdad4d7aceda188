-- Lent pieces of numbers, one after another, are the part of their column.
use Rattle.std.proofs.Common.{◌≡◌, ◌∙◌, ℕ, ℤ, ◌-◌, ◌<◌, ◌≤◌, Bool, List, [], ◌∷◌, ◌++◌, length, map, Option, None, Some, Result, refl, sym, ap, subst, arith}
use Rattle.std.specs.Prelude.{is_some, IfOk}
use Rattle.std.specs.declared.result.Result.TheVariants.{Ok, Err}
use Rattle.std.specs.List.{flat_map}
use Rattle.std.proofs.lemmas.List.{length-map, map-append}
use Rattle.far_types.specs.declared.refusal.Refusal.{Refusal}
use Rattle.far_types.specs.Cells.{cell_at}
use Rattle.far_types.specs.Lent.{int_cell}
use Rattle.far_types.specs.Table.{Table, Place, column as column_of, part}
use Rattle.far_columns.specs.Pieces.{pieces_of}
use Rattle.far_columns.proofs.PiecesLaws.{joined-pieces}
use Rattle.far_rows.specs.Refusing.{ints_refusal}
use Rattle.far_scopes.specs.Refusing.{refusal_in}
use Rattle.far_table.specs.State.{LiveState}
use Rattle.far_host.specs.HostTickets.{TicketState}
use Rattle.far_frame.specs.Lending.{piece_of, flags_of, ints_lent, lent_part}
use Rattle.far_frame.specs.State.{State, live}
use Rattle.far_frame.specs.Worlds.{World}
use Rattle.far_frame.proofs.LendingLaws.{cells-range, flags-range}
use Rattle.far_c.proofs.Lending.{ints-low, part-few, part-long}
use Rattle.far_c.specs.Parts.{alive_of, flags_in, has_value, number_or_zero, numbers_in, or_zero, valid_of, values_of}

abbrev Lent : Type 0
Lent = List (Option ℤ) × List Bool

cells-joined : (c : ℕ) (lents : List Lent) (pieces : List (List Place)) → map ints_lent lents ≡ map (piece_of c) pieces → map int_cell (numbers_in lents) ≡ column_of c (flat_map (λ p. p) pieces)
cells-joined c [] [] h = refl
cells-joined c [] (p ∷ ps) h = absurd cc
cells-joined c (l ∷ ls) [] h = absurd cc
cells-joined c (l ∷ ls) (p ∷ ps) h =
    let first : ints_lent l ≡ piece_of c p = cc in let rest : map ints_lent ls ≡ map (piece_of c) ps = cc in
    map-append int_cell l.0 (numbers_in ls) ∙ ap (λ cells. cells ++ map int_cell (numbers_in ls)) (ap (λ q. q.cells) first) ∙ ap (λ cells. column_of c p ++ cells) (cells-joined c ls ps rest)
    ∙ sym (map-append (λ (place : Place). cell_at c place.cells) p (flat_map (λ q. q) ps))

flags-joined : (c : ℕ) (lents : List Lent) (pieces : List (List Place)) → map ints_lent lents ≡ map (piece_of c) pieces → flags_in lents ≡ flags_of (flat_map (λ p. p) pieces)
flags-joined c [] [] h = refl
flags-joined c [] (p ∷ ps) h = absurd cc
flags-joined c (l ∷ ls) [] h = absurd cc
flags-joined c (l ∷ ls) (p ∷ ps) h =
    let first : ints_lent l ≡ piece_of c p = cc in let rest : map ints_lent ls ≡ map (piece_of c) ps = cc in
    ap (λ flags. flags ++ flags_in ls) (ap (λ q. q.flags) first) ∙ ap (λ flags. flags_of p ++ flags) (flags-joined c ls ps rest) ∙ sym (map-append (λ (place : Place). place.alive) p (flat_map (λ q. q) ps))

zeroed : (numbers : List (Option ℤ)) → map or_zero numbers ≡ map number_or_zero (map int_cell numbers)
zeroed [] = refl
zeroed (Some n ∷ ns) = ap (λ l. n ∷ l) (zeroed ns)
zeroed (None ∷ ns) = ap (λ l. or_zero None ∷ l) (zeroed ns)

valued : (numbers : List (Option ℤ)) → map is_some numbers ≡ map has_value (map int_cell numbers)
valued [] = refl
valued (Some n ∷ ns) = ap (λ l. is_some (Some n) ∷ l) (valued ns)
valued (None ∷ ns) = ap (λ l. is_some {T = ℤ} None ∷ l) (valued ns)

module _ (table : Table) (some : 0 < table.limits.group) (c from to : ℕ) (low : from ≤ to) (lents : List Lent) (are : map ints_lent lents ≡ lent_part table c from to) where
  cells-read : map int_cell (numbers_in lents) ≡ part c from to table.places
  cells-read = cells-joined c lents (pieces_of table.places table.limits.group from to) are ∙ ap (column_of c) (joined-pieces table.places table.limits.group some from to low) ∙ sym (cells-range c table.places from to)

  alive-read : flags_in lents ≡ alive_of table.places from to
  alive-read = flags-joined c lents (pieces_of table.places table.limits.group from to) are ∙ ap flags_of (joined-pieces table.places table.limits.group some from to low) ∙ sym (flags-range c table.places from to)

-- what a view of a world's table lends is the same part
module _ (view : LiveState TicketState) (state : State TicketState) (old : World TicketState) (is : view ≡ live state) (same : state ≡ old.state) (some : 0 < state.table.limits.group) (c from to : ℕ) where
  whole : view ≡ live old.state
  whole = is ∙ ap live same

  group : 0 < old.state.table.limits.group
  group = subst (λ (s : State TicketState). 0 < s.table.limits.group) same some

  as-table : (lents : List Lent) → map ints_lent lents ≡ lent_part view.table c from to → map ints_lent lents ≡ lent_part old.state.table c from to
  as-table lents lent = subst (λ (v : LiveState TicketState). map ints_lent lents ≡ lent_part v.table c from to) whole lent

  module _ (r : Result (List Lent) Refusal) (lent : IfOk r (λ lents. map ints_lent lents ≡ lent_part view.table c from to)) (refused : refusal_in r ≡ ints_refusal view.rows c from to) where
    pub lent-cells : IfOk r (λ lents. map int_cell (numbers_in lents) ≡ part c from to old.state.table.places)
    lent-cells = by r lent refused where
      by : (r : Result (List Lent) Refusal) → IfOk r (λ lents. map ints_lent lents ≡ lent_part view.table c from to) → refusal_in r ≡ ints_refusal view.rows c from to → IfOk r (λ lents. map int_cell (numbers_in lents) ≡ part c from to old.state.table.places)
      by (Ok lents) lent free = cells-read old.state.table group c from to (ints-low view.rows c from to (sym free)) lents (as-table lents lent)
      by (Err why) lent refused = lent

    pub lent-flags : IfOk r (λ lents. flags_in lents ≡ alive_of old.state.table.places from to)
    lent-flags = by r lent refused where
      by : (r : Result (List Lent) Refusal) → IfOk r (λ lents. map ints_lent lents ≡ lent_part view.table c from to) → refusal_in r ≡ ints_refusal view.rows c from to → IfOk r (λ lents. flags_in lents ≡ alive_of old.state.table.places from to)
      by (Ok lents) lent free = alive-read old.state.table group c from to (ints-low view.rows c from to (sym free)) lents (as-table lents lent)
      by (Err why) lent refused = lent

-- the numbers of the cells, and whether each has a value
module _ (places : List Place) (c from to : ℕ) (numbers : List (Option ℤ)) (cells : map int_cell numbers ≡ part c from to places) where
  pub few-numbers : length numbers ≤ to - from
  few-numbers = (let long = sym (length-map numbers int_cell) in let few = part-few places c from to (map int_cell numbers) cells in omega (arith, long, few))

  module _ (within : to ≤ length places) (n : ℕ) (long : n ≡ to - from) where
    as-long : length numbers ≡ n
    as-long = (let same = sym (length-map numbers int_cell) in let all = part-long places c from to (map int_cell numbers) cells within in omega (arith, same, all, long))

    pub values-are : (values : List ℤ) → (length numbers ≡ n → values ≡ map or_zero numbers) → values ≡ values_of places c from to
    values-are values copied = copied as-long ∙ zeroed numbers ∙ ap (map number_or_zero) cells

    pub valid-are : (valid : List Bool) → (length numbers ≡ n → valid ≡ map is_some numbers) → valid ≡ valid_of places c from to
    valid-are valid copied = copied as-long ∙ valued numbers ∙ ap (map has_value) cells
