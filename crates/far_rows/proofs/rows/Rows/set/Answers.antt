use Rattle.std.proofs.Common.{◌≡◌, ◌∙◌}
use Rattle.std.specs.Prelude.{slice_get}
use Rattle.std.proofs.lemmas.Option.{slice_get_within}
use Rattle.far_rows.specs.Rows.{all_cells}
use Rattle.far_rows.specs.Setting.{cell_of, kind_in}
use Rattle.far_rows.specs.Places.{places_of}
use Rattle.far_rows.proofs.RowsSameLength.{column-long}
use Rattle.far_rows.proofs.PlacesChanged.{places-set}
use Rattle.far_rows.proofs.PlainSet.{found-column_index}
use Rattle.far_rows.proofs.SettingLocality.{set-here, set-alive}
use Rattle.far_rows.proofs.rows.Rows.set.Goals as goal

pub returns-clause-places : goal.returns-clause-places
returns-clause-places g c =
    let content = g.S.FarTickets.content in
    let r = c.args.self.now in
    let now = c.set_value.new.self in
    let done = c.in_ok-set_value.ensures in
    let s = found-column_index (slice_get r.column_indexes c.args.column) (kind_in c.args.value.now) c.requires.of_kind in
    let alive : now.alive ≡ r.alive = set-alive content r now c.args.place c.args.value.now s.0 (slice_get r.column_indexes c.args.column) s.1 done.moved in
    (λ k. places_of (done.cells k) (alive k))
    ∙ places-set (all_cells content r) r.alive c.args.column c.args.place (cell_of c.args.value.now) (column-long content r c.len-len.ensures.rows c.args.column (slice_get_within r.column_indexes c.args.column s.0 s.1))

pub returns-clause-here : goal.returns-clause-here
returns-clause-here g c =
    let r = c.args.self.now in
    let s = found-column_index (slice_get r.column_indexes c.args.column) (kind_in c.args.value.now) c.requires.of_kind in
    set-here g.S.FarTickets.content r c.set_value.new.self c.args.place c.args.value.now s.0 (slice_get r.column_indexes c.args.column) s.1 c.in_ok-set_value.ensures.moved
