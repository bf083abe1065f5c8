-- What happened to batches.
use Rattle.std.specs.Prelude.{Bool, false, ◌&&◌, List, Result, Ok, Err}
use Rattle.std.specs.List.{list_all}
use Rattle.plant_base.specs.{BatchEvent, BatchRow, ControlLine, Refusal}
use Rattle.plant_recipe.specs.contracts.progress.ProgressPartialEq.TheImpl.{ghosts as equal}
use Rattle.plant_recipe.specs.declared.progress.Progress.{Progress}
use Rattle.plant_recipe.specs.{run_of}
use Rattle.plant_view.specs.{phases_among, events_among}
use Rattle.plant_requirements.specs.Batches.{is_row_among}

-- the kept columns of a batch
abbrev pub kept_progress : BatchRow → Progress
kept_progress b = record { state = b.state; attempt = b.attempt; next = b.next; closed = b.closed }

-- no event was refused, and the batch has come so far
abbrev pub is_run : Result Progress Refusal → Progress → Bool
is_run (Err refusal) p = false
is_run (Ok q) p = equal.eq q p

-- each event of the batch was allowed where it comes, and the kept columns are the fold of them
unfoldable pub has_right_run : List ControlLine → List BatchEvent → BatchRow → Bool
has_right_run control events b = is_run (run_of (phases_among control b.batch.id) (events_among events b.batch.id)) (kept_progress b)

-- and no event is without its batch
abbrev pub are_events : List ControlLine → List BatchEvent → List BatchRow → Bool
are_events control events batches =
    list_all (has_right_run control events) batches
    && list_all (λ e. is_row_among batches e.batch) events
