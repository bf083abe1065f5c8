-- The rows of a consistent state are in the order of their ids.
use Rattle.std.specs.Prelude.{map}
use Rattle.std.specs.List.Sorted.{IsStrictlySortedBy}
use Rattle.plant_base.specs.{id_cmp, State, batch_order, BatchRow}
use Rattle.plant_view.specs.{batch_row}
use Rattle.plant_view.specs.DecisionInvariant.{DecisionInvariant}
use Rattle.plant_view.proofs.Membership.{map_sorted}

-- batches with what their events made of them keep their order
pub batches_sorted : (s : State) → DecisionInvariant s → IsStrictlySortedBy (λ (a b : BatchRow). id_cmp a.batch.id b.batch.id) (map (batch_row s.control_lines s.events) s.batches)
batches_sorted s sound = map_sorted batch_order (λ (a b : BatchRow). id_cmp a.batch.id b.batch.id) (batch_row s.control_lines s.events) (λ a b less. less) s.batches sound.production.batches.sorted
