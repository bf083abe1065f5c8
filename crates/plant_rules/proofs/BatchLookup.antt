-- What a lookup of a batch finds.
use Rattle.std.proofs.Common.{◌≡◌, ℕ, List, Option, Some, None, is_some, sym, ap, option_map}
use Rattle.plant_base.specs.{State, batch_at, Batch}
use Rattle.plant_view.proofs.ListLemmas.{found_passes, same_id}
use Rattle.plant_view.specs.{batch_row, progress_at}
use Rattle.plant_rules.specs.{IsBatchOf}

pub batch_found : (s : State) (id : List ℕ) (o : Option Batch) → batch_at s id ≡ o → IsBatchOf s id (option_map (batch_row s.control_lines s.events) o)
batch_found s id None e = (ap is_some (sym e), tt)
batch_found s id (Some b) e =
    let key : b.id ≡ id = same_id b.id id (found_passes _ s.batches b e) in
    (ap is_some (sym e), (ap (λ i. (progress_at s i).state) key, ap (λ i. (progress_at s i).closed) key))
