-- The columns that tables keep in addition to the state, and the rows that a schema keeps.
use Rattle.std.specs.Prelude.{ℕ, ◌-◌, not, ◌&&◌, List, [], length, map, filter, nat_le, if◌then◌else◌}
use Rattle.std.specs.declared.cmp.Ordering.{Ordering}
use Rattle.plant_base.specs.PlantState.{same, numbered_cmp, batch_order}
use Rattle.plant_base.specs.StateRows.{State}
use Rattle.plant_base.specs.{Batch, BatchEvent, BatchRow, ControlLine, EdgeRow, Event, Hold, Movement, Place, Position, Sublot}
use Rattle.plant_recipe.specs.declared.progress.Progress.{Progress}
use Rattle.plant_recipe.specs.{is_phase, progress_after}
use Rattle.plant_stock.specs.{entered, left}
use Rattle.plant_view.specs.Genealogy.{edge_rows}

abbrev pub position_of : State → Position
position_of s = record { seq = s.seq; at = s.at }

abbrev pub sublot_order : Sublot → Sublot → Ordering
sublot_order a b = numbered_cmp a.lot a.number b.lot b.number

-- a place with its stock
abbrev pub sublot_row : List Movement → Place → Sublot
sublot_row ms p = record { lot = p.lot; number = p.number; place = p.place; stock = entered ms p.lot p.number - left ms p.lot p.number }

-- a sublot without its stock
abbrev pub place_of_row : Sublot → Place
place_of_row r = record { lot = r.lot; number = r.number; place = r.place }

-- a batch without the columns that follow from its events
abbrev pub batch_of_row : BatchRow → Batch
batch_of_row r = r.batch

-- how many phases the control recipe of a batch has
abbrev pub phases_among : List ControlLine → List ℕ → ℕ
phases_among lines batch = length (filter (λ l. same l.batch batch && is_phase l.line) lines)

-- what happened to a batch, in its order
abbrev pub events_among : List BatchEvent → List ℕ → List Event
events_among es batch = map (λ e. e.event) (filter (λ e. same e.batch batch) es)

-- a batch with the columns that are the fold of its events
abbrev pub row_at : Batch → Progress → BatchRow
row_at b p = record { batch = b; state = p.state; attempt = p.attempt; next = p.next; closed = p.closed }

abbrev pub batch_row : List ControlLine → List BatchEvent → Batch → BatchRow
batch_row lines es b = row_at b (progress_after (phases_among lines b.id) (events_among es b.id))

-- the progress of a batch: the fold of its events
abbrev pub progress_at : State → List ℕ → Progress
progress_at s batch = progress_after (phases_among s.control_lines batch) (events_among s.events batch)

abbrev pub batch_row_order : BatchRow → BatchRow → Ordering
batch_row_order a b = batch_order a.batch b.batch

-- the sublots of a lot with their stock, by number
abbrev pub sublots_of : State → List ℕ → List Sublot
sublots_of s lot = map (sublot_row s.movements) (filter (λ p. same p.lot lot) s.places)

-- the sublots of a lot without their stock, by number
abbrev pub places_of : State → List ℕ → List Place
places_of s lot = filter (λ p. same p.lot lot) s.places

-- the rows of the edges that movements make, in a schema that keeps them
abbrev pub edges_in : ℕ → List Movement → List EdgeRow
edges_in schema movements = if nat_le 2 schema then edge_rows movements else []

-- the holds but that of this lot and id
abbrev pub without_hold : List ℕ → List ℕ → List Hold → List Hold
without_hold lot id hs = filter (λ h. not (same h.lot lot && same h.id id)) hs
