-- The ids of batches are those of the rows that their events make of them.
use Rattle.std.proofs.Common.{◌≡◌, Bool, true, false, cond, List, [], ◌∷◌, map, find, is_some, Some, refl, ap, ℕ}
use Rattle.plant_base.specs.{same, Batch, BatchEvent, BatchRow, ControlLine}
use Rattle.plant_view.specs.{batch_row}

pub ids_of_rows : (lines : List ControlLine) (events : List BatchEvent) (batches : List Batch) → map (λ (r : BatchRow). r.batch.id) (map (batch_row lines events) batches) ≡ map (λ (b : Batch). b.id) batches
ids_of_rows lines events [] = refl
ids_of_rows lines events (b ∷ batches) = ap (λ l. b.id ∷ l) (ids_of_rows lines events batches)

pub found_row : (lines : List ControlLine) (events : List BatchEvent) (id : List ℕ) (batches : List Batch) → is_some (find (λ (b : Batch). same b.id id) batches) ≡ is_some (find (λ (r : BatchRow). same r.batch.id id) (map (batch_row lines events) batches))
found_row lines events id [] = refl
found_row lines events id (b ∷ batches) = by (same b.id id) (found_row lines events id batches)
  where
    by : (t : Bool) → is_some (find (λ (b : Batch). same b.id id) batches) ≡ is_some (find (λ (r : BatchRow). same r.batch.id id) (map (batch_row lines events) batches))
        → is_some (cond t (Some b) (find (λ (b : Batch). same b.id id) batches)) ≡ is_some (cond t (Some (batch_row lines events b)) (find (λ (r : BatchRow). same r.batch.id id) (map (batch_row lines events) batches)))
    by true rest = refl
    by false rest = rest
